-- Turns that tell no value out of range leave no wait that was answered one.
use Rattle.std.proofs.Common.{◌≡◌, ◌≢◌, ℕ, zero, suc, ◌<◌, All, Bool, true, false, cond, eqb, List, [], ◌∷◌, ◌++◌, ℤ, Option, Some, None, length, take, drop, refl, sym, ap, ◌∙◌}
use Rattle.std.specs.List.{position_from}
use Rattle.std.proofs.lemmas.Bool.{eqb-true, eq-eqb}
use Rattle.phase_base.specs.declared.mode.Mode.{Mode}
use Rattle.phase_accum.specs.declared.outcome.Outcome.{Outcome}
use Rattle.phase_history.specs.declared.event.Event.{Event}
use Rattle.phase_history.specs.declared.event.Event.TheVariants.{Made, Registered, RegisteredNow, Signalled, Waited, Dropped}
use Rattle.phase_history.specs.Histories.{History, wait_phase}
use Rattle.phase_history.specs.Phases.{received_by, stream_of}
use Rattle.graph_base.specs.declared.place.Place.TheVariants as place
use Rattle.graph_base.specs.TaskLines.{IsGraph}
use Rattle.stream_lists.specs.Jobs.{Job}
use Rattle.stream_lists.specs.Ranges.{Where, is_too_big}
use Rattle.graph_runs.specs.Moments.{Moment, AnsweredNone, AnsweredNoneBefore, HasAnsweredNone, HasAnsweredNoneBefore, value_at}
use Rattle.graph_runs.specs.Turned.{with_at}
use Rattle.graph_runs.specs.TaskEvents.{TaskEvent, IsNext, sample, signal, first_wait, exchange_wait, leave, child, child_now, after_turn}
use Rattle.graph_runs.specs.Beginnings.{root_mode, with_root, roots_joined, opening}
use Rattle.graph_runs.specs.NextBlocks.{MaySize}
use Rattle.graph_runs.specs.Answers.{Answer, TooBig, makes, is_blocked, is_gone, has_made, is_refused, after_answer, told_event, told_wait, word_of_answer, turn_up_to, tells_up_to}
use Rattle.graph_runs.specs.Reached.{IsReachable}
use Rattle.graph_runs.proofs.Found.{none_found}
use Rattle.graph_runs.proofs.Turning.{turn_makes_next}

-- ---- the answer to one wait

same_rest : {X : Type 0} (xs ys zs : List X) → xs ++ ys ≡ xs ++ zs → ys ≡ zs
same_rest [] ys zs e = e
same_rest (x ∷ xs) ys zs e =
    same_rest xs ys zs (let tail : xs ++ ys ≡ xs ++ zs = cc in tail)

-- what the wait added to what its task has received
pub answer_is : (value : List ℤ → Outcome) (h : History) (n many : ℕ) (outcomes : List Outcome)
    → received_by value (Waited n many ∷ h) n ≡ received_by value h n ++ outcomes
    → take many (drop (wait_phase h n) (stream_of value h)) ≡ outcomes
answer_is value h n many outcomes answered =
    let here : eqb n n ≡ true = eq-eqb n n refl in
    let is : received_by value (Waited n many ∷ h) n
    ≡ received_by value h n ++ take many (drop (wait_phase h n) (stream_of value h)) =
    rw here refl in
    same_rest (received_by value h n) (take many (drop (wait_phase h n) (stream_of value h)))
    outcomes (sym is ∙ answered)

-- ---- one event

-- these outcomes are in range
abbrev AreSmall : List Outcome → Type 0
AreSmall outcomes = All (λ outcome. is_too_big outcome ≡ false) outcomes

-- a wait's outcomes are, and other events have none
abbrev HasSmall : TaskEvent → Type 0
HasSmall (first_wait t k p n outcomes) = AreSmall outcomes
HasSmall (exchange_wait t p n outcome) = AreSmall (outcome ∷ [])
HasSmall event = Unit {0}

-- what holds of each phaser with its history, where one has a new history
with_one : (P : ℕ → History → Type 0) (p : ℕ) (h : History) (hs : ℕ → History) → P p h
    → ((q : ℕ) → P q (hs q)) → (q : ℕ) → P q (with_at p h hs q)
with_one P p h hs here others q = by (eqb q p) refl
  where
    by : (b : Bool) → eqb q p ≡ b → P q (cond b h (hs q))
    by true e = rw (eqb-true q p e) here
    by false e = others q

-- on a phaser of the graph
abbrev On : Job → ((List ℤ → Outcome) → History → Type 0) → ℕ → History → Type 0
On job P q h = q < length job.graph.phasers → P (value_at job q) h

before_weaker : (value : List ℤ → Outcome) (h : History) → AnsweredNone value h
    → AnsweredNoneBefore value h
before_weaker value [] none = tt
before_weaker value (Made task ∷ h) none = none
before_weaker value (Registered parent new mode ∷ h) none = none
before_weaker value (RegisteredNow parent new ∷ h) none = none
before_weaker value (Signalled task lists single ∷ h) none = none
before_weaker value (Waited task phases ∷ h) none = none.1
before_weaker value (Dropped task ∷ h) none = none

-- after one event all waits but it were answered none
before_event : (job : Job) (m : Moment) (event : TaskEvent) → HasAnsweredNone job m
    → HasAnsweredNoneBefore job (after_turn job event m)
before_event job m event none = by event
  where
    one : (p : ℕ) (e : Event)
        → (q : ℕ) → On job AnsweredNoneBefore q (with_at p (e ∷ m.history p) m.history q)
    one p e =
        with_one (On job AnsweredNoneBefore) p (e ∷ m.history p) m.history (λ pp. none p pp)
        (λ q qq. before_weaker (value_at job q) (m.history q) (none q qq))

    by : (event : TaskEvent) → HasAnsweredNoneBefore job (after_turn job event m)
    by (sample t j p n vs) = one p _
    by (signal t j p n vs) = one p _
    by (first_wait t k p n outcomes) = one p _
    by (exchange_wait t p n outcome) = one p _
    by (leave t p n) = one p _
    by (child t p n c a mode) = one p _
    by (child_now t p n c a) = one p _

-- and it too, where its outcomes are in range
none_after : (job : Job) (m : Moment) (event : TaskEvent) → IsNext job m event → HasSmall event
    → HasAnsweredNone job m → HasAnsweredNone job (after_turn job event m)
none_after job m event next small none = by event next small
  where
    one : (p : ℕ) (e : Event) → On job AnsweredNone p (e ∷ m.history p)
        → (q : ℕ) → On job AnsweredNone q (with_at p (e ∷ m.history p) m.history q)
    one p e here = with_one (On job AnsweredNone) p (e ∷ m.history p) m.history here none

    waits : (p n : ℕ) (outcomes : List Outcome)
        → received_by (value_at job p) (Waited n (length outcomes) ∷ m.history p) n
        ≡ received_by (value_at job p) (m.history p) n ++ outcomes
        → AreSmall outcomes → On job AnsweredNone p (Waited n (length outcomes) ∷ m.history p)
    waits p n outcomes answered small pp = (
      rw (answer_is (value_at job p) (m.history p) n (length outcomes) outcomes answered)
          small,
      none p pp,
    )

    by : (event : TaskEvent) → IsNext job m event → HasSmall event
        → HasAnsweredNone job (after_turn job event m)
    by (sample t j p n vs) next small = one p _ (λ pp. none p pp)
    by (signal t j p n vs) next small = one p _ (λ pp. none p pp)
    by (first_wait t k p n outcomes) next small =
        one p (Waited n (length outcomes)) (waits p n outcomes next.1.wait.answered small)
    by (exchange_wait t p n outcome) next small =
        one p (Waited n 1) (waits p n (outcome ∷ []) next.1.wait.answered small)
    by (leave t p n) next small = one p _ (λ pp. none p pp)
    by (child t p n c a mode) next small = one p _ (λ pp. none p pp)
    by (child_now t p n c a) next small = one p _ (λ pp. none p pp)

-- ---- a turn

-- a wait that tells no value out of range has its outcomes in range
small_wait : (m : Moment) (p n : ℕ) (outcomes : List Outcome)
    → ((at : Where) → Some (told_wait m p n outcomes) ≢ Some (TooBig at)) → AreSmall outcomes
small_wait m p n outcomes never =
    by (position_from is_too_big (wait_phase (m.history p) n) outcomes) refl
  where
    by : (o : Option ℕ) → position_from is_too_big (wait_phase (m.history p) n) outcomes ≡ o
        → AreSmall outcomes
    by None found = none_found is_too_big (wait_phase (m.history p) n) outcomes found
    by (Some phase) found =
        let told : told_wait m p n outcomes ≡ TooBig (place.Phaser p, phase) = rw found refl in
        absurd (never (place.Phaser p, phase) (ap (λ x. Some x) told))

-- a turn that tells no value out of range
small_told : (job : Job) (m : Moment) (event : TaskEvent)
    → ((at : Where) → Some (told_event job m event) ≢ Some (TooBig at)) → HasSmall event
small_told job m (sample t j p n vs) never = tt
small_told job m (signal t j p n vs) never = tt
small_told job m (first_wait t k p n outcomes) never = small_wait m p n outcomes never
small_told job m (exchange_wait t p n outcome) never = small_wait m p n (outcome ∷ []) never
small_told job m (leave t p n) never = tt
small_told job m (child t p n c a mode) never = tt
small_told job m (child_now t p n c a) never = tt

pub turn_answers_none : (steps most : ℕ) (job : Job) (m : Moment) (t : ℕ)
    → MaySize job.graph t steps most → IsGraph job.graph → IsReachable job m
    → HasAnsweredNone job m → ((at : Where) → tells_up_to steps most job m t ≢ Some (TooBig at))
    → HasAnsweredNone job (after_answer job (turn_up_to steps most job m t) m)
turn_answers_none steps most job m t may is reached none never = by (turn_up_to steps most job m t) refl
  where
    by : (answer : Answer) → turn_up_to steps most job m t ≡ answer
        → HasAnsweredNone job (after_answer job answer m)
    by (makes event) e =
        none_after job m event
        (turn_makes_next steps most job m t event may is reached.ran (λ c due. reached.to_come) e)
        (small_told job m event (λ at same. never at (ap (word_of_answer job m) e ∙ same))) none
    by is_blocked e = none
    by is_gone e = none
    by (has_made at) e = none
    by is_refused e = none

pub turn_answers_one : (steps most : ℕ) (job : Job) (m : Moment) (t : ℕ) → HasAnsweredNone job m
    → HasAnsweredNoneBefore job (after_answer job (turn_up_to steps most job m t) m)
turn_answers_one steps most job m t none = by (turn_up_to steps most job m t)
  where
    same : HasAnsweredNoneBefore job m
    same q qq = before_weaker (value_at job q) (m.history q) (none q qq)

    by : (answer : Answer) → HasAnsweredNoneBefore job (after_answer job answer m)
    by (makes event) = before_event job m event none
    by is_blocked = same
    by is_gone = same
    by (has_made at) = same
    by is_refused = same

-- ---- the opening

pub opening_answers_none : (job : Job) → HasAnsweredNone job (opening job)
opening_answers_none job p pp = roots (length job.graph.tasks)
  where
    with_one_root : (h : History) (o : Option Mode) → AnsweredNone (value_at job p) h
        → AnsweredNone (value_at job p) (with_root h o)
    with_one_root h None none = none
    with_one_root h (Some mode) none = none

    roots : (n : ℕ) → AnsweredNone (value_at job p) (roots_joined job p n)
    roots zero = tt
    roots (suc n) =
        with_one_root (roots_joined job p n) (root_mode job n p) (roots n)

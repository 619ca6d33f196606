-- How many numbers were used on a phaser: one for each task that is registered there, and the
-- founder's.
use Rattle.std.proofs.Common.{◌≡◌, ◌≢◌, ℕ, zero, suc, ◌+◌, ◌-◌, ◌<◌, ◌≤◌, Bool, true, false, cond, eqb, ◌∷◌, ◌^◌, Option, Some, None, is_some, length, max, map, refl, sym, ap, ◌∙◌, arith, ◌⊎◌, inl, inr}
use Rattle.std.specs.Prelude.{nat_lt}
use Rattle.std.proofs.lemmas.Bool.{eqb-true, eq-eqb, cases_lt, lt-ltb}
use Rattle.phase_base.specs.declared.mode.Mode.{Mode}
use Rattle.phase_history.specs.declared.event.Event.{Event}
use Rattle.phase_history.specs.declared.event.Event.TheVariants.{Signalled, Waited, Dropped}
use Rattle.phase_history.specs.Histories.{History, greatest_used}
use Rattle.phase_registry.specs.Rosters.{next_after}
use Rattle.graph_base.specs.declared.limits.TheConstants.{TASKS_MAX}
use Rattle.graph_base.specs.Graphs.{phaser_at}
use Rattle.graph_base.specs.TaskLines.{IsGraph}
use Rattle.stream_lists.specs.Jobs.{Job}
use Rattle.graph_runs.specs.Moments.{one, Moment}
use Rattle.graph_runs.specs.Moves.{HasMoved}
use Rattle.graph_runs.proofs.InBlocks.{next_samples_are, next_signals_are, first_waits_are}
use Rattle.graph_runs.proofs.JoinsNow.{next_child_now_is}
use Rattle.graph_runs.proofs.Turned.{exchange_wait_is, next_leave_is, next_child_is}
use Rattle.graph_runs.specs.TaskEvents.{TaskEvent, IsNext, sample, signal, first_wait, exchange_wait, leave, child, child_now, after_turn}
use Rattle.graph_runs.specs.Answers.{Answer, makes, is_blocked, is_gone, has_made, is_refused, after_answer, turn_up_to}
use Rattle.graph_runs.specs.Beginnings.{opening, root_mode, root_number, roots_joined, number_after_founder, with_root}
use Rattle.graph_runs.specs.Reached.{IsReachable}
use Rattle.graph_runs.proofs.Turning.{turn_makes_next}
use Rattle.graph_runs.proofs.Whose.{IsInOrder, made_by}
use Rattle.stream_job.specs.Machines.{IsMachineAt, numbered, UsesFew}
use Rattle.stream_job.specs.declared.machine.Machine.{Machine}
use Rattle.graph_runs.specs.NextBlocks.{MaySize}

-- ---- how many have a number

abbrev one_of : Option ℕ → ℕ
one_of o = cond (is_some o) 1 0

numbered_same : (f g : ℕ → Option ℕ) (n : ℕ) → ((t : ℕ) → t < n → f t ≡ g t)
    → numbered f n ≡ numbered g n
numbered_same f g zero same = refl
numbered_same f g (suc n) same =
    ap (λ k. k + one_of (f n)) (numbered_same f g n (λ t lt. same t (omega arith)))
    ∙ ap (λ o. numbered g n + one_of o) (same n (omega arith))

-- one task more
numbered_joined : (f g : ℕ → Option ℕ) (n c a : ℕ) → c < n → f c ≡ None → g c ≡ Some a
    → ((t : ℕ) → t ≢ c → g t ≡ f t) → numbered g n ≡ suc (numbered f n)
numbered_joined f g zero c a lt none some same = absurd (omega arith)
numbered_joined f g (suc n) c a lt none some same =
    by (cases_lt c n) (λ less. numbered_joined f g n c a less none some same)
  where
    by : (c < n) ⊎ (n ≤ c) → (c < n → numbered g n ≡ suc (numbered f n))
        → numbered g n + one_of (g n) ≡ suc (numbered f n + one_of (f n))
    by (inl less) before =
        let was : numbered g n ≡ suc (numbered f n) = before less in
        let here : one_of (g n) ≡ one_of (f n) = ap one_of (same n (λ e. omega arith)) in
        omega arith
    by (inr past) before =
        let at : n ≡ c = omega arith in
        let was : numbered g n ≡ numbered f n =
        numbered_same g f n (λ t low. same t (λ e. omega arith)) in
        let now : one_of (g n) ≡ 1 = ap (λ t. one_of (g t)) at ∙ ap one_of some in
        let then : one_of (f n) ≡ 0 = ap (λ t. one_of (f t)) at ∙ ap one_of none in
        omega arith

numbered_few : (f : ℕ → Option ℕ) (n : ℕ) → numbered f n ≤ n
numbered_few f zero = omega arith
numbered_few f (suc n) =
    let few : numbered f n ≤ n = numbered_few f n in
    by (f n) few
  where
    by : (o : Option ℕ) → numbered f n ≤ n → numbered f n + one_of o ≤ suc n
    by None few = omega arith
    by (Some a) few = omega arith

-- ---- one event

few_moved : (job : Job) (before after : Moment) (t p : ℕ) (event : Event)
    → HasMoved job before after t p event
    → ((h : History) → greatest_used (event ∷ h) ≡ greatest_used h)
    → UsesFew job before → UsesFew job after
few_moved job before after t p event moved same few q lt = by (eqb q p) refl
  where
    was : greatest_used (before.history q) ≤ numbered (before.number q) (length job.graph.tasks)
    was = few q lt

    many : numbered (after.number q) (length job.graph.tasks)
        ≡ numbered (before.number q) (length job.graph.tasks)
    many =
        numbered_same (after.number q) (before.number q) (length job.graph.tasks)
        (λ u less. moved.numbers q u)

    from : greatest_used (after.history q) ≡ greatest_used (before.history q)
        → greatest_used (after.history q) ≤ numbered (after.number q) (length job.graph.tasks)
    from now =
        let low : greatest_used (before.history q)
        ≤ numbered (before.number q) (length job.graph.tasks) = was in
        let kept : numbered (after.number q) (length job.graph.tasks)
        ≡ numbered (before.number q) (length job.graph.tasks) = many in
        omega arith

    by : (b : Bool) → eqb q p ≡ b
        → greatest_used (after.history q) ≤ numbered (after.number q) (length job.graph.tasks)
    by true e =
        let at : q ≡ p = eqb-true q p e in
        from (ap (λ x. greatest_used (after.history x)) at ∙ ap greatest_used moved.here
        ∙ same (before.history p) ∙ ap (λ x. greatest_used (before.history x)) (sym at))
    by false e =
        from (ap greatest_used
        (moved.elsewhere q (λ s. (let no = sym (eq-eqb q p s) ∙ e in cc))))

-- one task more has a number, the one above all that were used on phaser p
few_joined : (job : Job) (before after : Moment) (p c a : ℕ) → c < length job.graph.tasks
    → before.number p c ≡ None → after.number p c ≡ Some a
    → ((q x : ℕ) → (q ≢ p) ⊎ (x ≢ c) → after.number q x ≡ before.number q x)
    → ((q : ℕ) → q ≢ p → after.history q ≡ before.history q)
    → greatest_used (after.history p) ≡ max a (greatest_used (before.history p))
    → greatest_used (before.history p) + 1 ≡ a → UsesFew job before → UsesFew job after
few_joined job before after p c a there absent number others elsewhere used next few q lt =
    by (eqb q p) refl
  where
    was : greatest_used (before.history q) ≤ numbered (before.number q) (length job.graph.tasks)
    was = few q lt

    by : (b : Bool) → eqb q p ≡ b
        → greatest_used (after.history q) ≤ numbered (after.number q) (length job.graph.tasks)
    by true e =
        let at : q ≡ p = eqb-true q p e in
        let now : greatest_used (after.history q) ≡ max a (greatest_used (before.history p)) =
        ap (λ x. greatest_used (after.history x)) at ∙ used in
        let one : greatest_used (before.history p) + 1 ≡ a = next in
        let here : greatest_used (before.history q) ≡ greatest_used (before.history p) =
        ap (λ x. greatest_used (before.history x)) at in
        let low : greatest_used (before.history q)
        ≤ numbered (before.number q) (length job.graph.tasks) = was in
        let joined : numbered (after.number q) (length job.graph.tasks)
        ≡ suc (numbered (before.number q) (length job.graph.tasks)) =
        numbered_joined (before.number q) (after.number q) (length job.graph.tasks) c a there
        (ap (λ x. before.number x c) at ∙ absent) (ap (λ x. after.number x c) at ∙ number)
        (λ x apart. others q x (inr apart)) in
        omega arith
    by false e =
        let apart : q ≢ p = λ same. (let no = sym (eq-eqb q p same) ∙ e in cc) in
        let now : greatest_used (after.history q) ≡ greatest_used (before.history q) =
        ap greatest_used (elsewhere q apart) in
        let low : greatest_used (before.history q)
        ≤ numbered (before.number q) (length job.graph.tasks) = was in
        let many : numbered (after.number q) (length job.graph.tasks)
        ≡ numbered (before.number q) (length job.graph.tasks) =
        numbered_same (after.number q) (before.number q) (length job.graph.tasks)
        (λ x less. others q x (inl apart)) in
        omega arith

few_after_event : (job : Job) (m : Moment) (event : TaskEvent) → IsReachable job m
    → IsNext job m event → IsInOrder job m event → UsesFew job m
    → UsesFew job (after_turn job event m)
few_after_event job m (sample t j p n vs) reached next order few =
    let s = next_samples_are job m t j p n vs next.1 (reached.ran.tasks t next.0.task) in
    few_moved job m (after_turn job (sample t j p n vs) m) t p
    (Signalled n (map one vs) (phaser_at job.graph p).single) s.moved (λ h. refl) few
few_after_event job m (signal t j p n vs) reached next order few =
    let s = next_signals_are job m t j p n vs next.1 (reached.ran.tasks t next.0.task) in
    few_moved job m (after_turn job (signal t j p n vs) m) t p
    (Signalled n (map one vs) (phaser_at job.graph p).single) s.moved (λ h. refl) few
few_after_event job m (first_wait t k p n outcomes) reached next order few =
    let s = first_waits_are job m t k p n outcomes next.1 in
    few_moved job m (after_turn job (first_wait t k p n outcomes) m) t p
    (Waited n (length outcomes)) s.moved (λ h. refl) few
few_after_event job m (exchange_wait t p n outcome) reached next order few =
    let s = exchange_wait_is job m t p n outcome next.1 in
    few_moved job m (after_turn job (exchange_wait t p n outcome) m) t p (Waited n 1) s.moved
    (λ h. refl) few
few_after_event job m (leave t p n) reached next order few =
    let s = next_leave_is job m t p n next.1 in
    few_moved job m (after_turn job (leave t p n) m) t p (Dropped n) s.moved (λ h. refl) few
few_after_event job m (child t p n c a mode) reached next order few =
    let s = next_child_is job m t p n c a mode next.1.0 next.1.1 in
    few_joined job m (after_turn job (child t p n c a mode) m) p c a s.child s.absent s.number
    s.other_numbers s.elsewhere (ap greatest_used s.here) order.4 few
few_after_event job m (child_now t p n c a) reached next order few =
    let s = next_child_now_is job m t p n c a next.1.0 next.1.1 in
    few_joined job m (after_turn job (child_now t p n c a) m) p c a s.child s.absent s.number
    s.other_numbers s.elsewhere (ap greatest_used s.here) order.3 few

-- what a turn leaves
pub few_after : {steps most : ℕ} (job : Job) (m : Moment) (t : ℕ) → MaySize job.graph t steps most → IsGraph job.graph → IsReachable job m
    → UsesFew job m → UsesFew job (after_answer job (turn_up_to steps most job m t) m)
few_after {steps} {most} job m t sized is reached few = by (turn_up_to steps most job m t) refl
  where
    by : (a : Answer) → turn_up_to steps most job m t ≡ a → UsesFew job (after_answer job a m)
    by (makes event) e =
        few_after_event job m event reached
        (turn_makes_next steps most job m t event sized is reached.ran (λ c due. reached.to_come) e)
        (made_by steps most job m t event e).1.missing few
    by is_blocked e = few
    by is_gone e = few
    by (has_made at) e = few
    by is_refused e = few

-- ---- the opening

-- each task that begins there is one number more
roots_use : (job : Job) (p n : ℕ)
    → greatest_used (roots_joined job p n) ≡ numbered (root_number job p) n
roots_use job p zero = refl
roots_use job p (suc n) = by (root_mode job n p) (roots_use job p n)
  where
    by : (o : Option Mode)
        → greatest_used (roots_joined job p n) ≡ numbered (root_number job p) n
        → greatest_used (with_root (roots_joined job p n) o)
        ≡ numbered (root_number job p) n + one_of (number_after_founder (roots_joined job p n) o)
    by None e =
        let none : numbered (root_number job p) n ≡ numbered (root_number job p) n + 0 = omega arith in
        e ∙ none
    by (Some mode) e =
        let now : greatest_used (with_root (roots_joined job p n) (Some mode))
        ≡ max (greatest_used (roots_joined job p n) + 1) (greatest_used (roots_joined job p n)) = refl in
        omega arith

pub opening_uses_few : (job : Job) → UsesFew job (opening job)
opening_uses_few job p lt =
    let n = length job.graph.tasks in
    let same : greatest_used (roots_joined job p n) ≡ numbered (root_number job p) n =
    roots_use job p n in
    omega arith

-- ---- a number is left

pub number_left : (job : Job) (m : Moment) (machine : Machine) (p : ℕ) (o : Option ℕ)
    → IsMachineAt job m machine → p < length job.graph.phasers
    → o ≡ next_after (Some (greatest_used (m.history p))) → o ≢ None
number_left job m machine p o at lt is none =
    let few : greatest_used (m.history p) ≤ numbered (m.number p) (length job.graph.tasks) =
    at.few p lt in
    let below : numbered (m.number p) (length job.graph.tasks) ≤ length job.graph.tasks =
    numbered_few (m.number p) (length job.graph.tasks) in
    let most : length job.graph.tasks ≤ TASKS_MAX = at.graph.few_tasks in
    let small : nat_lt (greatest_used (m.history p)) (2 ^ 64 - 1) ≡ true =
    lt-ltb (greatest_used (m.history p)) (2 ^ 64 - 1) (omega arith) in
    let some : next_after (Some (greatest_used (m.history p)))
    ≡ Some (greatest_used (m.history p) + 1) =
    ap (λ b. cond b (Some (greatest_used (m.history p) + 1)) None) small in
    (let wrong : None ≡ Some (greatest_used (m.history p) + 1) = sym none ∙ is ∙ some in cc)

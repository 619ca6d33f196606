-- A task's place after others' events, and after those of its own that signal and wait for nothing.
use Rattle.std.proofs.Common.{◌≡◌, ◌≢◌, ℕ, ◌+◌, ◌-◌, ◌<◌, ◌≤◌, Bool, true, false, cond, eqb, List, [], ◌∷◌, ◌++◌, Some, length, get_or, slice_get, map, ℤ, pos, refl, sym, ap, ◌∙◌, arith, ◌⊎◌, inl, inr}
use Rattle.std.specs.Prelude.{nat_lt, unwrap_or, take, drop}
use Rattle.std.specs.List.{range_with_len}
use Rattle.std.proofs.lemmas.Bool.{eqb-true, eq-eqb, ne_eqb, cases_lt, le-ltb}
use Rattle.std.proofs.lemmas.List.{length-append, get_or-append_right, get_or_append_left}
use Rattle.std.proofs.lemmas.Option.{slice_get-get_or, slice_get_past}
use Rattle.stream_filters.specs.Range.{ranged}
use Rattle.phase_base.specs.declared.mode.Mode.{Mode}
use Rattle.phase_history.specs.declared.event.Event.{Event}
use Rattle.phase_history.specs.declared.event.Event.TheVariants.{Registered, RegisteredNow, Dropped}
use Rattle.phase_history.specs.Histories.{History, has_dropped, greatest_used}
use Rattle.phase_accum.specs.declared.outcome.Outcome.{Outcome}
use Rattle.phase_accum.specs.declared.outcome.Outcome.TheVariants.{Empty}
use Rattle.phase_history.specs.Legal.{IsLegal}
use Rattle.phase_history.proofs.Received.{unused, start_of-above}
use Rattle.graph_base.specs.declared.line.Parent.{Parent}
use Rattle.graph_base.specs.Graphs.{task_at}
use Rattle.graph_base.specs.TaskLines.{IsGraph}
use Rattle.stream_lists.specs.Jobs.{Job}
use Rattle.stream_lists.specs.Spans.{signalled_by}
use Rattle.stream_lists.specs.Lists.{number}
use Rattle.stream_lists.proofs.Basics.{find-same}
use Rattle.graph_runs.specs.Moments.{Moment, made_now, limits_at}
use Rattle.graph_runs.specs.Moves.{HasMoved, SameTask, Registers, RegistersNow, SignalsAll, WaitsAll}
use Rattle.graph_runs.proofs.OwnEvents.{made_still, history_where}
use Rattle.graph_runs.specs.Nexts.{is_owed, first_owed, in_step, waits_first, has_left, number_on, registrations_at, signals, exchanges}
use Rattle.graph_runs.specs.Answers.{values_up_to}
use Rattle.graph_runs.specs.TaskPlaces.{Owed, nothing, values, exchange, OwesUpTo, TaskPlace, StandsUpTo, registration_at, child_place, lacking}
use Rattle.graph_runs.proofs.Reaching.{one_registration}

-- ---- what is owed stays

-- what a moment says of the steps of a task, wherever they begin
pub record SameSteps (before after : Moment) (t : ℕ) : Type 0 where
  pub begun : after.begun t ≡ before.begun t
  pub taken : (k : ℕ) → after.taken t k ≡ before.taken t k
  pub put : (j : ℕ) → after.put t j ≡ before.put t j

pub same_steps : (before after : Moment) (t : ℕ) → SameTask before after t
    → SameSteps before after t
same_steps before after t same =
    record { begun = same.begun; taken = same.taken; put = same.put }

made_same : (job : Job) (before after : Moment) (t j : ℕ) → SameSteps before after t
    → made_now job after t j ≡ made_now job before t j
made_same job before after t j same = made_still job before after t j same.taken same.begun

first_owed_same : (job : Job) (before after : Moment) (t : ℕ) → SameSteps before after t
    → first_owed job after t ≡ first_owed job before t
first_owed_same job before after t same =
    find-same (is_owed job after t) (is_owed job before t)
    (range_with_len 0 (length (signalled_by (task_at job.graph t))))
    (λ j. ap (λ l. nat_lt (length l) (length (made_now job after t j))) (same.put j)
    ∙ ap (λ l. nat_lt (length (before.put t j)) (length l))
    (made_same job before after t j same))

in_step_same : (job : Job) (before after : Moment) (t j : ℕ) → SameSteps before after t
    → in_step job after t j ≡ in_step job before t j
in_step_same job before after t j same =
    ap (λ l. cond (waits_first (task_at job.graph t).kind j (length l) (length (after.taken t 1)))
    exchanges (signals j)) (same.put j)
    ∙ ap (λ l. cond (waits_first (task_at job.graph t).kind j (length (before.put t j)) (length l))
    exchanges (signals j)) (same.taken 1)

next_same : (most : ℕ) (job : Job) (before after : Moment) (t j : ℕ)
    → SameSteps before after t
    → values_up_to most job after t j ≡ values_up_to most job before t j
next_same most job before after t j same =
    ap (λ l. take most (drop (length (after.put t j)) l)) (made_same job before after t j same)
    ∙ ap (λ l. take most (drop (length l) (made_now job before t j))) (same.put j)

owes_same : (most : ℕ) (job : Job) (before after : Moment) (t : ℕ) (owed : Owed)
    → SameSteps before after t → OwesUpTo most job before t owed
    → OwesUpTo most job after t owed
owes_same most job before after t nothing same owes =
    first_owed_same job before after t same ∙ owes
owes_same most job before after t (values j vs) same owes = (
  first_owed_same job before after t same ∙ owes.0,
  in_step_same job before after t j same ∙ owes.1,
  ap (λ l. map ranged l) (next_same most job before after t j same) ∙ owes.2,
)
owes_same most job before after t (exchange x) same owes = (
  first_owed_same job before after t same ∙ owes.0,
  in_step_same job before after t 1 same ∙ owes.1,
  ap (λ l. get_or l (length (after.taken t 1)) (pos 0)) (same.taken 0)
      ∙ ap (λ l. get_or (before.taken t 0) (length l) (pos 0)) (same.taken 1) ∙ owes.2,
)

-- what the outputs lack
abbrev pub Lacks : Job → Moment → ℕ → Owed → Type 0
Lacks job m t owed = (j : ℕ) → j < length (signalled_by (task_at job.graph t))
    → length (made_now job m t j) ≡ length (m.put t j) + lacking (task_at job.graph t).kind owed j

-- the steps of a task, as its place has them
pub record StepsAt (most : ℕ) (job : Job) (m : Moment) (t : ℕ) (at : TaskPlace) : Type 0 where
  pub begun : m.begun t ≡ at.begun
  pub owes : OwesUpTo most job m t at.owed
  pub lacks : Lacks job m t at.owed

lacks_same : (job : Job) (before after : Moment) (t : ℕ) (owed : Owed)
    → SameSteps before after t → Lacks job before t owed → Lacks job after t owed
lacks_same job before after t owed same lacks j lt =
    ap length (made_same job before after t j same) ∙ lacks j lt
    ∙ ap (λ l. length l + lacking (task_at job.graph t).kind owed j) (sym (same.put j))

pub steps_stay : {most : ℕ} (job : Job) (before after : Moment) (t : ℕ) (at : TaskPlace)
    → SameSteps before after t → StandsUpTo most job before t at → StepsAt most job after t at
steps_stay {most} job before after t at same stands = record {
  begun = same.begun ∙ stands.begun;
  owes = owes_same most job before after t at.owed same stands.owes;
  lacks = lacks_same job before after t at.owed same stands.lacks;
}

-- ---- what a call changes

-- task t has put these values on its output j, and nothing else
pub record PutsAll (before after : Moment) (t j : ℕ) (vs : List ℤ) : Type 0 where
  pub taken : (k : ℕ) → after.taken t k ≡ before.taken t k
  pub put : after.put t j ≡ before.put t j ++ vs
  pub other_puts : (i : ℕ) → i ≢ j → after.put t i ≡ before.put t i

-- task t has got these numbers from its input k, and nothing else
pub record GetsAll (before after : Moment) (t k : ℕ) (xs : List ℤ) : Type 0 where
  pub taken : after.taken t k ≡ before.taken t k ++ xs
  pub other_takes : (i : ℕ) → i ≢ k → after.taken t i ≡ before.taken t i
  pub put : (j : ℕ) → after.put t j ≡ before.put t j

pub puts_all : (job : Job) (before after : Moment) (t j p n : ℕ) (vs : List ℤ)
    → SignalsAll job before after t j p n vs → PutsAll before after t j vs
puts_all job before after t j p n vs s =
    record { taken = s.taken; put = s.put; other_puts = s.other_puts }

pub gets_all : (job : Job) (before after : Moment) (t k p n : ℕ) (outcomes : List Outcome)
    → WaitsAll job before after t k p n outcomes
    → GetsAll before after t k (map number outcomes)
gets_all job before after t k p n outcomes s =
    record { taken = s.taken; other_takes = s.other_takes; put = s.put }

-- ---- registrations stay

-- a task has the numbers that it had, and has left what it had left
pub record KeepsPlaces (before after : Moment) (t : ℕ) : Type 0 where
  pub number : (q : ℕ) → after.number q t ≡ before.number q t
  pub left : (q n : ℕ) → before.number q t ≡ Some n
      → has_dropped (after.history q) n ≡ has_dropped (before.history q) n

-- what stands at a place that the list has
pub number_is : {most : ℕ} (job : Job) (m : Moment) (t i : ℕ) (at : TaskPlace)
    → StandsUpTo most job m t at → i < length at.numbers
    → m.number (registration_at job t i).phaser t
    ≡ Some (number_on m t (registration_at job t i).phaser)
number_is job m t i at stands lt =
    let le : length at.numbers ≤ length (registrations_at job t) = stands.few in
    let some : m.number (registration_at job t i).phaser t ≡ Some (get_or at.numbers i 0) =
    stands.numbered i (omega arith) ∙ slice_get-get_or at.numbers i 0 lt in
    some ∙ ap (λ n. Some n) (ap (λ o. unwrap_or o 0) (sym some))

left_same : {most : ℕ} (job : Job) (before after : Moment) (t i : ℕ) (at : TaskPlace)
    → StandsUpTo most job before t at → KeepsPlaces before after t → i < length at.numbers
    → has_left after t (registration_at job t i) ≡ has_left before t (registration_at job t i)
left_same job before after t i at stands keeps lt =
    let q = (registration_at job t i).phaser in
    ap (λ o. has_dropped (after.history q) (unwrap_or o 0)) (keeps.number q)
    ∙ keeps.left q (number_on before t q) (number_is job before t i at stands lt)

-- the place stays, but for how many steps were begun and what is owed
pub stays_at : {most : ℕ} (job : Job) (before after : Moment) (t begun : ℕ) (owed : Owed)
    (at : TaskPlace) → StandsUpTo most job before t at → KeepsPlaces before after t
    → after.begun t ≡ begun → OwesUpTo most job after t owed → Lacks job after t owed
    → StandsUpTo most job after t (record at { begun = begun; owed = owed })
stays_at job before after t begun owed at stands keeps steps owes lacks = record {
  few = stands.few;
  few_left = stands.few_left;
  numbered = λ i lt. keeps.number (registration_at job t i).phaser ∙ stands.numbered i lt;
  leaves = λ i lt. left_same job before after t i at stands keeps lt ∙ stands.leaves i lt;
  begun = steps;
  owes = owes;
  lacks = lacks;
}

pub stays_same : {most : ℕ} (job : Job) (before after : Moment) (t : ℕ) (at : TaskPlace)
    → StandsUpTo most job before t at → KeepsPlaces before after t → SameTask before after t
    → StandsUpTo most job after t at
stays_same job before after t at stands keeps same =
    let steps = steps_stay job before after t at (same_steps before after t same) stands in
    stays_at job before after t at.begun at.owed at stands keeps steps.begun steps.owes steps.lacks

-- ---- which events keep them

-- of another task's event, or one that is no drop, on phaser p
pub keeps_moved : (job : Job) (before after : Moment) (t p : ℕ) (event : Event) (u : ℕ)
    → HasMoved job before after t p event
    → ((n : ℕ) → before.number p u ≡ Some n
    → has_dropped (event ∷ before.history p) n ≡ has_dropped (before.history p) n)
    → KeepsPlaces before after u
keeps_moved job before after t p event u moved here = record {
  number = λ q. moved.numbers q u;
  left = λ q n at. by q n at (eqb q p) refl;
}
  where
    by : (q n : ℕ) → before.number q u ≡ Some n → (b : Bool) → eqb q p ≡ b
        → has_dropped (after.history q) n ≡ has_dropped (before.history q) n
    by q n at true e =
        let same : q ≡ p = eqb-true q p e in
        ap (λ x. has_dropped (after.history x) n) same ∙ ap (λ h. has_dropped h n) moved.here
        ∙ here n (ap (λ x. before.number x u) (sym same) ∙ at)
        ∙ ap (λ x. has_dropped (before.history x) n) (sym same)
    by q n at false e =
        ap (λ h. has_dropped h n)
        (moved.elsewhere q (λ same. (let no = sym (eq-eqb q p same) ∙ e in cc)))

-- another's drop
pub dropped_other : (h : History) (n other : ℕ) → n ≢ other
    → has_dropped (Dropped n ∷ h) other ≡ has_dropped h other
dropped_other h n other apart = let no : eqb n other ≡ false = ne_eqb n other apart in rw no refl

-- a registration gave task c number a on phaser p: nobody else got one, and nobody left
pub record GivesNumber (before after : Moment) (p c a : ℕ) : Type 0 where
  pub number : after.number p c ≡ Some a
  pub other_numbers : (q x : ℕ) → (q ≢ p) ⊎ (x ≢ c) → after.number q x ≡ before.number q x
  pub left : (q b : ℕ) → has_dropped (after.history q) b ≡ has_dropped (before.history q) b

pub gives : (job : Job) (before after : Moment) (t p n c a : ℕ) (mode : Mode) (u : Parent)
    → Registers job before after t p n c a mode u → GivesNumber before after p c a
gives job before after t p n c a mode u s = record {
  number = s.number;
  other_numbers = s.other_numbers;
  left = λ q b.
      history_where before after p (Registered n a mode)
      (λ h. has_dropped h b ≡ has_dropped (before.history q) b) q s.here s.elsewhere
      (λ same. refl) (λ apart. refl);
}

pub gives_now : (job : Job) (before after : Moment) (t p n c a : ℕ) (u : Parent)
    → RegistersNow job before after t p n c a u → GivesNumber before after p c a
gives_now job before after t p n c a u s = record {
  number = s.number;
  other_numbers = s.other_numbers;
  left = λ q b.
      history_where before after p (RegisteredNow n a)
      (λ h. has_dropped h b ≡ has_dropped (before.history q) b) q s.here s.elsewhere
      (λ same. refl) (λ apart. refl);
}

-- any task but the child keeps its own
pub keeps_registered : (before after : Moment) (p c a x : ℕ) → GivesNumber before after p c a
    → x ≢ c → KeepsPlaces before after x
keeps_registered before after p c a x s apart = record {
  number = λ q. s.other_numbers q x (inr apart);
  left = λ q b at. s.left q b;
}

-- ---- the child

-- a registration is for the first that the child misses
pub child_stands : {most : ℕ} (job : Job) (before after : Moment) (p c a : ℕ) (at : TaskPlace)
    → IsGraph job.graph → c < length job.graph.tasks
    → IsLegal (limits_at job p) (before.history p) → GivesNumber before after p c a
    → SameSteps before after c → StandsUpTo most job before c at
    → length at.numbers < length (registrations_at job c)
    → (registration_at job c (length at.numbers)).phaser ≡ p
    → greatest_used (before.history p) < a
    → StandsUpTo most job after c (child_place a at)
child_stands {most} job before after p c a at is there legal s same stands room here new = record {
  few = (let l = length-append at.numbers (a ∷ []) in omega arith);
  few_left = (let l = length-append at.numbers (a ∷ []) in
      let le : at.left ≤ length at.numbers = stands.few_left in omega arith);
  numbered = λ i lt. numbered i lt (cases_lt i (length at.numbers))
      (cases_lt (length at.numbers) i);
  leaves = λ i lt.
      (leaves i (omega (arith, length-append at.numbers (a ∷ []))) (cases_lt i (length at.numbers)));
  begun = steps.begun;
  owes = steps.owes;
  lacks = steps.lacks;
}
  where
    steps : StepsAt most job after c at
    steps = steps_stay job before after c at same stands

    -- another registration of the child is on another phaser
    apart : (i : ℕ) → i < length (registrations_at job c) → i ≢ length at.numbers
        → (registration_at job c i).phaser ≢ p
    apart i lt other same =
        other (one_registration job c i (length at.numbers) is there lt room
        (same ∙ sym here))

    same_number : (i : ℕ) → i < length (registrations_at job c) → i ≢ length at.numbers
        → after.number (registration_at job c i).phaser c ≡ slice_get at.numbers i
    same_number i lt other =
        s.other_numbers (registration_at job c i).phaser c (inl (apart i lt other))
        ∙ stands.numbered i lt

    numbered : (i : ℕ) → i < length (registrations_at job c)
        → (i < length at.numbers) ⊎ (length at.numbers ≤ i)
        → (length at.numbers < i) ⊎ (i ≤ length at.numbers)
        → after.number (registration_at job c i).phaser c ≡ slice_get (at.numbers ++ a ∷ []) i
    numbered i lt (inl low) d =
        let l = length-append at.numbers (a ∷ []) in
        same_number i lt (λ e. omega arith) ∙ slice_get-get_or at.numbers i 0 low
        ∙ ap (λ x. Some x) (sym (get_or_append_left at.numbers (a ∷ []) 0 i low))
        ∙ sym (slice_get-get_or (at.numbers ++ a ∷ []) i 0 (omega arith))
    numbered i lt (inr le) (inl high) =
        let l = length-append at.numbers (a ∷ []) in
        same_number i lt (λ e. omega arith) ∙ slice_get_past at.numbers i le
        ∙ sym (slice_get_past (at.numbers ++ a ∷ []) i (omega arith))
    numbered i lt (inr le) (inr ge) =
        let l = length-append at.numbers (a ∷ []) in
        let same : i ≡ length at.numbers = omega arith in
        let off : i - length at.numbers ≡ 0 = omega arith in
        ap (λ x. after.number (registration_at job c x).phaser c) same
        ∙ ap (λ q. after.number q c) here ∙ s.number
        ∙ ap (λ x. Some x) (sym (get_or-append_right at.numbers (a ∷ []) (length at.numbers) i 0
        refl le ∙ ap (λ x. get_or (a ∷ []) x 0) off))
        ∙ sym (slice_get-get_or (at.numbers ++ a ∷ []) i 0 (omega arith))

    leaves : (i : ℕ) → i < length at.numbers + 1
        → (i < length at.numbers) ⊎ (length at.numbers ≤ i)
        → has_left after c (registration_at job c i) ≡ nat_lt i at.left
    leaves i lt (inl low) =
        let q = (registration_at job c i).phaser in
        ap (λ o. has_dropped (after.history q) (unwrap_or o 0))
        (s.other_numbers q c (inl (apart i (omega arith) (λ e. omega arith))))
        ∙ s.left q (number_on before c q)
        ∙ stands.leaves i low
    leaves i lt (inr le) =
        let same : i ≡ length at.numbers = omega arith in
        let q = (registration_at job c i).phaser in
        let at_p : q ≡ p = ap (λ x. (registration_at job c x).phaser) same ∙ here in
        let none : has_dropped (before.history p) a ≡ false =
        (unused (λ sends. Empty)
        (limits_at job p) (before.history p) a legal
        (start_of-above (before.history p) a new)).stays in
        ap (λ x. has_dropped (after.history x) (unwrap_or (after.number x c) 0)) at_p
        ∙ ap (λ o. has_dropped (after.history p) (unwrap_or o 0)) s.number
        ∙ s.left p a ∙ none
        ∙ sym (le-ltb i at.left (omega (arith, stands.few_left)))

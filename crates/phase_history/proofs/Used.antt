-- The numbers that were used: a use stays, and the task of every event was used before.
use Rattle.std.proofs.Common.{◌≡◌, ℕ, ◌<◌, ◌≤◌, true, false, cond, eqb, List, [], ◌∷◌, ◌++◌, Option, Some, None, length, inl, inr, refl, sym, ap, subst, ◌∙◌, arith}
use Rattle.std.specs.Prelude.{is_some}
use Rattle.std.proofs.lemmas.Bool.{eqb-true, eq-eqb, ne_eqb, cases_lt}
use Rattle.phase_base.specs.Limits.{Limits}
use Rattle.phase_base.specs.declared.mode.Mode.TheVariants.{Wait}
use Rattle.phase_base.specs.declared.entry.Entry.{Entry}
use Rattle.phase_base.specs.Members.{entry_of, signalled, waited}
use Rattle.phase_history.specs.declared.event.Event.{Event}
use Rattle.phase_history.specs.declared.event.Event.TheVariants.{Made, Registered, RegisteredNow, Signalled, Waited, Dropped}
use Rattle.phase_history.specs.Histories.{History, IsBeginning, members_of, entry_at, signal_phase, wait_phase, done_of, greatest_used, start_of, IsAlive}
use Rattle.phase_history.specs.Legal.{IsLegal, IsAccepted}
use Rattle.phase_history.specs.Others.{is_by, events_of, IsUsed, OnlyUsed}
use Rattle.phase_base.specs.Lists.{is_in}
use Rattle.phase_history.proofs.MemberLemmas.{entry_of-push_old, entry_of-changed_other, entry_of-without_other}
use Rattle.phase_history.proofs.Refused.{registers_from, passes_from, signals_from, waits_from}
use Rattle.phase_history.proofs.Streams.{legal_rest}
use Rattle.phase_history.proofs.Received.{start_of-above, entry_of-none}
use Rattle.phase_history.proofs.OthersEvents.{skips}

-- ---- beginnings

-- more events in front of some are some
more_some : (h more : History) → (h ≡ [] → ⊥) → more ++ h ≡ [] → ⊥
more_some h [] some none = some none
more_some h (event ∷ more) some none = (cc)

legal_end : (limits : Limits) (h more : History) → (h ≡ [] → ⊥) → IsLegal limits (more ++ h) → IsLegal limits h
legal_end limits h [] some legal = legal
legal_end limits h (event ∷ more) some legal =
    legal_end limits h more some (legal_rest limits event (more ++ h) (more_some h more some) legal).0

-- a longer history is one of more events in front
of_longer : (limits : Limits) (h longer : History) (b : IsBeginning h longer) → IsLegal limits longer → IsLegal limits (b.later ++ h)
of_longer limits h longer b legal = (rw b.is at legal)

pub IsLegal-beginning : (limits : Limits) (h longer : History) → (h ≡ [] → ⊥) → IsLegal limits longer → IsBeginning h longer
    → IsLegal limits h
IsLegal-beginning limits h longer some legal b = legal_end limits h b.later some (of_longer limits h longer b legal)

-- ---- starts

-- a number with a start is not above the greatest
pub start_used : (h : History) (task : ℕ) (start : Entry) → start_of h task ≡ Some start → task ≤ greatest_used h
start_used h task start is =
    elim (cases_lt (greatest_used h) task) as (λ x. task ≤ greatest_used h) [
      | inl above ↦ absurd (let none : start_of h task ≡ None = start_of-above h task above in
          let both : None ≡ Some start = sym none ∙ is in cc)
      | inr within ↦ within
    ]

-- an accepted event leaves each start
start_of-event : (limits : Limits) (event : Event) (before : History) (task : ℕ) (start : Entry) → IsAccepted limits before event
    → start_of before task ≡ Some start → start_of (event ∷ before) task ≡ Some start
start_of-event limits (Made founding) before task start accepted is =
    absurd (let none : None ≡ Some start = rw accepted.1 at is in cc)
start_of-event limits (Registered parent child mode) before task start accepted is =
    let above : greatest_used before < child = (registers_from before parent child mode accepted).new_number in
    let low : task ≤ greatest_used before = start_used before task start is in
    let apart : eqb child task ≡ false = ne_eqb child task (λ e. omega arith) in
    rw apart is
start_of-event limits (RegisteredNow parent child) before task start accepted is =
    let above : greatest_used before < child = (registers_from before parent child Wait accepted).new_number in
    let low : task ≤ greatest_used before = start_used before task start is in
    let apart : eqb child task ≡ false = ne_eqb child task (λ e. omega arith) in
    rw apart is
start_of-event limits (Signalled signaller lists single) before task start accepted is = is
start_of-event limits (Waited waiter n) before task start accepted is = is
start_of-event limits (Dropped gone) before task start accepted is = is

-- no number has a start where nothing has happened
start_some : (h : History) (task : ℕ) (start : Entry) → start_of h task ≡ Some start → h ≡ [] → ⊥
start_some [] task start is none = absurd (cc)
start_some (event ∷ before) task start is none = (cc)

start_of-more : (limits : Limits) (h more : History) (task : ℕ) (start : Entry) → IsLegal limits (more ++ h)
    → start_of h task ≡ Some start → start_of (more ++ h) task ≡ Some start
start_of-more limits h [] task start legal is = is
start_of-more limits h (event ∷ more) task start legal is =
    let r = legal_rest limits event (more ++ h) (more_some h more (start_some h task start is)) legal in
    start_of-event limits event (more ++ h) task start r.1 (start_of-more limits h more task start r.0 is)

pub start_of-longer : (limits : Limits) (h longer : History) (task : ℕ) (start : Entry) → IsLegal limits longer → IsBeginning h longer
    → start_of h task ≡ Some start → start_of longer task ≡ Some start
start_of-longer limits h longer task start legal b is =
    ap (λ l. start_of l task) b.is ∙ start_of-more limits h b.later task start (of_longer limits h longer b legal) is

-- ---- uses

-- the start of a used number
pub start_from : (o : Option Entry) → is_some o ≡ true → (start : Entry) × (o ≡ Some start)
start_from None used = absurd (cc)
start_from (Some start) used = (start, refl)

pub IsUsed-longer : (limits : Limits) (h longer : History) (task : ℕ) → IsLegal limits longer → IsBeginning h longer
    → IsUsed h task → IsUsed longer task
IsUsed-longer limits h longer task legal b used =
    let s = start_from (start_of h task) used in
    ap is_some (start_of-longer limits h longer task s.0 legal b s.1)

-- who has no start is no member
pub IsUsed-member : (h : History) (task : ℕ) → IsAlive h task → IsUsed h task
IsUsed-member h task alive =
    elim (start_of h task) as (λ o. (start_of h task ≡ o) → is_some o ≡ true) [
      | None ↦ λ never. sym (ap is_some (entry_of-none h task never)) ∙ alive
      | Some start ↦ λ is. refl
    ] refl

-- the task of an accepted event is registered
pub IsAlive-by : (limits : Limits) (before : History) (event : Event) (task : ℕ) → IsAccepted limits before event
    → is_by task event ≡ true → IsAlive before task
IsAlive-by limits before (Made founding) task accepted by = absurd (let no : false ≡ true = by in cc)
IsAlive-by limits before (Registered parent child mode) task accepted by =
    rw (eqb-true _ _ by) at (ap is_some (registers_from before parent child mode accepted).is_member)
IsAlive-by limits before (RegisteredNow parent child) task accepted by =
    rw (eqb-true _ _ by) at (ap is_some (registers_from before parent child Wait accepted).is_member)
IsAlive-by limits before (Signalled signaller lists single) task accepted by =
    rw (eqb-true _ _ by) at (ap is_some (signals_from limits before signaller lists single accepted.0).is_member)
IsAlive-by limits before (Waited waiter n) task accepted by =
    rw (eqb-true _ _ by) at (ap is_some (waits_from limits before waiter n accepted.0).is_member)
IsAlive-by limits before (Dropped gone) task accepted by =
    rw (eqb-true _ _ by) at (ap is_some (passes_from (entry_of (members_of before) gone) (record {}) (λ entry. []) accepted).is_member)

-- the event in front of a legal history was accepted, where it is a task's
accepted_by : (limits : Limits) (event : Event) (before : History) (task : ℕ) → IsLegal limits (event ∷ before)
    → is_by task event ≡ true → IsAccepted limits before event
accepted_by limits (Made founding) before task legal by = absurd (let no : false ≡ true = by in cc)
accepted_by limits (Registered parent child mode) before task legal by = legal.1
accepted_by limits (RegisteredNow parent child) before task legal by = legal.1
accepted_by limits (Signalled signaller lists single) before task legal by = legal.1
accepted_by limits (Waited waiter n) before task legal by = legal.1
accepted_by limits (Dropped gone) before task legal by = legal.1

pub registered_before : (limits : Limits) (before longer : History) (event : Event) (task : ℕ)
    → IsLegal limits longer → IsBeginning (event ∷ before) longer → is_by task event ≡ true → IsAlive before task
registered_before limits before longer event task legal b by =
    let now : IsLegal limits (event ∷ before) = IsLegal-beginning limits (event ∷ before) longer (λ none. (cc)) legal b in
    IsAlive-by limits before event task (accepted_by limits event before task now by) by

pub used_before : (limits : Limits) (before longer : History) (event : Event) (task : ℕ)
    → IsLegal limits longer → IsBeginning (event ∷ before) longer → is_by task event ≡ true → IsUsed before task
used_before limits before longer event task legal b by =
    IsUsed-member before task (registered_before limits before longer event task legal b by)

-- ---- a number that was never used

-- in what stands before the newest event it was not used either
not_used_before : (limits : Limits) (event : Event) (before : History) (task : ℕ) → IsLegal limits (event ∷ before)
    → start_of (event ∷ before) task ≡ None → start_of before task ≡ None
not_used_before limits event before task legal none =
    elim (start_of before task) as (λ o. (start_of before task ≡ o) → o ≡ None) [
      | None ↦ λ e. refl
      | Some start ↦ λ e. absurd (let now : start_of (event ∷ before) task ≡ Some start = start_of-more limits before (event ∷ []) task start legal e in
          let both : None ≡ Some start = sym none ∙ now in cc)
    ] refl

-- and then the newest event is not its own
events_of-unused_more : (limits : Limits) (event : Event) (before : History) (task : ℕ) → IsLegal limits (event ∷ before)
    → start_of (event ∷ before) task ≡ None → events_of task before ≡ [] → events_of task (event ∷ before) ≡ []
events_of-unused_more limits event before task legal none earlier =
    elim (is_by task event) as (λ b. (is_by task event ≡ b) → cond b (event ∷ events_of task before) (events_of task before) ≡ []) [
      | true ↦ λ by.
          let used : IsUsed before task = used_before limits before (event ∷ before) event task legal (record { later = []; is = refl }) by in
          let unused : start_of before task ≡ None = not_used_before limits event before task legal none in
          absurd (let no : false ≡ true = sym (ap is_some unused) ∙ used in cc)
      | false ↦ λ by. earlier
    ] refl

pub events_of-unused : (limits : Limits) (h : History) (task : ℕ) → IsLegal limits h → start_of h task ≡ None → events_of task h ≡ []
events_of-unused limits [] task legal none = refl
events_of-unused limits (Made founding ∷ before) task legal none = ap (λ b. events_of task b) legal.1
events_of-unused limits (Registered parent child mode ∷ before) task legal none =
    events_of-unused_more limits (Registered parent child mode) before task legal none
    (events_of-unused limits before task legal.0 (not_used_before limits (Registered parent child mode) before task legal none))
events_of-unused limits (RegisteredNow parent child ∷ before) task legal none =
    events_of-unused_more limits (RegisteredNow parent child) before task legal none
    (events_of-unused limits before task legal.0 (not_used_before limits (RegisteredNow parent child) before task legal none))
events_of-unused limits (Signalled signaller lists single ∷ before) task legal none =
    events_of-unused_more limits (Signalled signaller lists single) before task legal none (events_of-unused limits before task legal.0 none)
events_of-unused limits (Waited waiter n ∷ before) task legal none =
    events_of-unused_more limits (Waited waiter n) before task legal none (events_of-unused limits before task legal.0 none)
events_of-unused limits (Dropped gone ∷ before) task legal none =
    events_of-unused_more limits (Dropped gone) before task legal none (events_of-unused limits before task legal.0 none)

-- ---- members under others' events

-- another task's event leaves a member where it stands
entry_of-other : (limits : Limits) (event : Event) (before : History) (task : ℕ) (entry : Entry) → IsAccepted limits before event
    → is_by task event ≡ false → entry_of (members_of before) task ≡ Some entry
    → entry_of (members_of (event ∷ before)) task ≡ Some entry
entry_of-other limits (Made founding) before task entry accepted other found =
    absurd (let none : None ≡ Some entry = rw accepted.1 at found in cc)
entry_of-other limits (Registered parent child mode) before task entry accepted other found =
    entry_of-push_old (members_of before) child task (entry_at mode (signal_phase before parent) (wait_phase before parent)) entry found
entry_of-other limits (RegisteredNow parent child) before task entry accepted other found =
    entry_of-push_old (members_of before) child task (entry_at Wait (signal_phase before parent) (done_of before)) entry found
entry_of-other limits (Signalled signaller lists single) before task entry accepted other found =
    entry_of-changed_other signaller task (signalled (length lists)) (members_of before) other ∙ found
entry_of-other limits (Waited waiter n) before task entry accepted other found =
    entry_of-changed_other waiter task (waited n) (members_of before) other ∙ found
entry_of-other limits (Dropped gone) before task entry accepted other found =
    entry_of-without_other (members_of before) gone task other ∙ found

-- there is no member where nothing has happened
member_some : (h : History) (task : ℕ) (entry : Entry) → entry_of (members_of h) task ≡ Some entry → h ≡ [] → ⊥
member_some [] task entry found none = absurd (cc)
member_some (event ∷ before) task entry found none = (cc)

pub entry_of-others : (limits : Limits) (later h : History) (task : ℕ) (entry : Entry) → IsLegal limits (later ++ h)
    → events_of task later ≡ [] → entry_of (members_of h) task ≡ Some entry → entry_of (members_of (later ++ h)) task ≡ Some entry
entry_of-others limits [] h task entry legal none found = found
entry_of-others limits (event ∷ later) h task entry legal none found =
    let s = skips task event later none in
    let r = legal_rest limits event (later ++ h) (more_some h later (member_some h task entry found)) legal in
    entry_of-other limits event (later ++ h) task entry r.1 s.not_by
    (entry_of-others limits later h task entry r.0 s.rest found)

-- ---- where only some numbers were used

-- who registers a child is one of them, and then its event is one of theirs
parent_known : (limits : Limits) (before : History) (event : Event) (parent : ℕ) (tasks : List ℕ)
    → IsAccepted limits before event → is_by parent event ≡ true
    → ((task : ℕ) → is_in task tasks ≡ true → is_by task event ≡ false) → OnlyUsed tasks before → ⊥
parent_known limits before event parent tasks accepted by other only =
    let used : IsUsed before parent = IsUsed-member before parent (IsAlive-by limits before event parent accepted by) in
    let no : true ≡ false = sym by ∙ other parent (only parent used) in cc

OnlyUsed-other : (limits : Limits) (event : Event) (before : History) (tasks : List ℕ) → IsLegal limits before → IsAccepted limits before event
    → ((task : ℕ) → is_in task tasks ≡ true → is_by task event ≡ false) → OnlyUsed tasks before → OnlyUsed tasks (event ∷ before)
OnlyUsed-other limits (Made founding) before tasks legal accepted other only task used =
    absurd (rw accepted.1 at legal)
OnlyUsed-other limits (Registered parent child mode) before tasks legal accepted other only task used =
    absurd (parent_known limits before (Registered parent child mode) parent tasks accepted (eq-eqb parent parent refl) other only)
OnlyUsed-other limits (RegisteredNow parent child) before tasks legal accepted other only task used =
    absurd (parent_known limits before (RegisteredNow parent child) parent tasks accepted (eq-eqb parent parent refl) other only)
OnlyUsed-other limits (Signalled signaller lists single) before tasks legal accepted other only task used = only task used
OnlyUsed-other limits (Waited waiter n) before tasks legal accepted other only task used = only task used
OnlyUsed-other limits (Dropped gone) before tasks legal accepted other only task used = only task used

pub OnlyUsed-others : (limits : Limits) (later h : History) (tasks : List ℕ) → (h ≡ [] → ⊥) → IsLegal limits (later ++ h)
    → ((task : ℕ) → is_in task tasks ≡ true → events_of task later ≡ []) → OnlyUsed tasks h → OnlyUsed tasks (later ++ h)
OnlyUsed-others limits [] h tasks some legal none only = only
OnlyUsed-others limits (event ∷ later) h tasks some legal none only =
    let r = legal_rest limits event (later ++ h) (more_some h later some) legal in
    OnlyUsed-other limits event (later ++ h) tasks r.0 r.1 (λ task has. (skips task event later (none task has)).not_by)
    (OnlyUsed-others limits later h tasks some r.0 (λ task has. (skips task event later (none task has)).rest) only)

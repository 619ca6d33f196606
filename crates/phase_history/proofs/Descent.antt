-- Where each child of a task of a list stands in the list, all that were used do.
use Rattle.std.proofs.Common.{◌≡◌, ℕ, true, false, cond, eqb, ◌||◌, Bool, List, [], ◌∷◌, ◌++◌, Some, refl, ap, subst, ◌∙◌}
use Rattle.std.specs.Prelude.{is_some}
use Rattle.std.proofs.lemmas.Bool.{eqb-true, eq-eqb, or_right}
use Rattle.phase_base.specs.Limits.{Limits}
use Rattle.phase_base.specs.declared.entry.Entry.{Entry}
use Rattle.phase_history.specs.declared.event.Event.{Event}
use Rattle.phase_history.specs.declared.event.Event.TheVariants.{Made, Registered, RegisteredNow, Signalled, Waited, Dropped}
use Rattle.phase_base.specs.declared.mode.Mode.TheVariants.{Wait}
use Rattle.phase_history.specs.Histories.{History, founder, entry_at, signal_phase, wait_phase, done_of, start_of}
use Rattle.phase_history.specs.Legal.{IsLegal, IsAccepted}
use Rattle.phase_history.specs.Others.{is_by, events_of, children_in, OnlyUsed}
use Rattle.phase_base.specs.Lists.{is_in}
use Rattle.phase_history.proofs.Streams.{legal_rest}
use Rattle.phase_history.proofs.Used.{IsUsed-member, IsAlive-by}

-- the children of the list's tasks stand in the list
abbrev pub HasChildren : List ℕ → History → Type 0
HasChildren tasks h = (task child : ℕ) → is_in task tasks ≡ true
    → is_in child (children_in (events_of task h)) ≡ true → is_in child tasks ≡ true

-- a child stays a child
kept : (b : Bool) (event : Event) (rest : History) (child : ℕ) → is_in child (children_in rest) ≡ true
    → is_in child (children_in (cond b (event ∷ rest) rest)) ≡ true
kept false event rest child has = has
kept true (Made founding) rest child has = has
kept true (Registered parent other mode) rest child has = or_right (eqb other child) (is_in child (children_in rest)) has
kept true (RegisteredNow parent other) rest child has = or_right (eqb other child) (is_in child (children_in rest)) has
kept true (Signalled signaller lists single) rest child has = has
kept true (Waited waiter n) rest child has = has
kept true (Dropped gone) rest child has = has

-- a child is its parent's
own_child : (event : Event) (before : History) (parent child : ℕ) → is_by parent event ≡ true
    → (children_in (event ∷ events_of parent before) ≡ child ∷ children_in (events_of parent before))
    → is_in child (children_in (events_of parent (event ∷ before))) ≡ true
own_child event before parent child by first =
    ap (λ b. is_in child (children_in (cond b (event ∷ events_of parent before) (events_of parent before)))) by
    ∙ ap (λ l. is_in child l) first
    ∙ ap (λ b. b || is_in child (children_in (events_of parent before))) (eq-eqb child child refl)

-- either the number is the child's, or it was used before
new_or_old : (tasks : List ℕ) (child task : ℕ) (start : Entry) (before : History) (b : Bool) → eqb child task ≡ b
    → is_some (cond b (Some start) (start_of before task)) ≡ true → is_in child tasks ≡ true → OnlyUsed tasks before → is_in task tasks ≡ true
new_or_old tasks child task start before true same used has only = subst (λ n. is_in n tasks ≡ true) (eqb-true child task same) has
new_or_old tasks child task start before false apart used has only = only task used

some_before : (founding : ℕ) (later : History) → later ++ (Made founding ∷ []) ≡ [] → ⊥
some_before founding [] none = (cc)
some_before founding (event ∷ later) none = (cc)

pub OnlyUsed-descent : (limits : Limits) (founding : ℕ) (tasks : List ℕ) (later : History) → IsLegal limits (later ++ (Made founding ∷ []))
    → is_in founding tasks ≡ true → HasChildren tasks (later ++ (Made founding ∷ [])) → OnlyUsed tasks (later ++ (Made founding ∷ []))
OnlyUsed-descent limits founding tasks [] legal has each =
    λ task used. new_or_old tasks founding task founder [] (eqb founding task) refl used has (λ other none. absurd (cc))
OnlyUsed-descent limits founding tasks (event ∷ later) legal has each =
    let before : History = later ++ (Made founding ∷ []) in
    let r = legal_rest limits event before (some_before founding later) legal in
    let only : OnlyUsed tasks before =
    OnlyUsed-descent limits founding tasks later r.0 has
    (λ task child inside is. each task child inside (kept (is_by task event) event (events_of task before) child is)) in
    with_event event before (some_before founding later) r.1 only each
  where
    parent_in : (event : Event) (before : History) (parent : ℕ) → IsAccepted limits before event → is_by parent event ≡ true → OnlyUsed tasks before
        → is_in parent tasks ≡ true
    parent_in event before parent accepted by only = only parent (IsUsed-member before parent (IsAlive-by limits before event parent accepted by))

    with_event : (event : Event) (before : History) → (before ≡ [] → ⊥) → IsAccepted limits before event → OnlyUsed tasks before
        → HasChildren tasks (event ∷ before) → OnlyUsed tasks (event ∷ before)
    with_event (Made again) before some accepted only each task used = absurd (some accepted.1)
    with_event (Registered parent child mode) before some accepted only each task used =
        let by : is_by parent (Registered parent child mode) ≡ true = eq-eqb parent parent refl in
        let inside : is_in child tasks ≡ true =
        each parent child (parent_in (Registered parent child mode) before parent accepted by only)
        (own_child (Registered parent child mode) before parent child by refl) in
        new_or_old tasks child task (entry_at mode (signal_phase before parent) (wait_phase before parent)) before (eqb child task) refl used inside only
    with_event (RegisteredNow parent child) before some accepted only each task used =
        let by : is_by parent (RegisteredNow parent child) ≡ true = eq-eqb parent parent refl in
        let inside : is_in child tasks ≡ true =
        each parent child (parent_in (RegisteredNow parent child) before parent accepted by only)
        (own_child (RegisteredNow parent child) before parent child by refl) in
        new_or_old tasks child task (entry_at Wait (signal_phase before parent) (done_of before)) before (eqb child task) refl used inside only
    with_event (Signalled signaller lists single) before some accepted only each task used = only task used
    with_event (Waited waiter n) before some accepted only each task used = only task used
    with_event (Dropped gone) before some accepted only each task used = only task used

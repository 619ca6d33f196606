-- How many values each task signals in one event, at most: this stays.
use Rattle.std.proofs.Common.{◌≡◌, ◌≢◌, ℕ, zero, suc, ◌<◌, [], ◌∷◌, Bool, true, false, eqb, List, Some, length, slice_get, set, refl, sym, ap, subst, ◌∙◌, arith}
use Rattle.std.proofs.lemmas.Bool.{eqb-true, eq-eqb}
use Rattle.std.proofs.lemmas.List.{get_or-set_same, length-set}
use Rattle.std.proofs.lemmas.Option.{slice_get-get_or, slice_get_within}
use Rattle.graph_base.specs.Graphs.{task_at}
use Rattle.stream_lists.specs.Jobs.{Job}
use Rattle.graph_runs.proofs.Stepping.{line_sizes}
use Rattle.graph_runs.specs.Moments.{Moment}
use Rattle.graph_runs.specs.TaskPlaces.{StandsUpTo}
use Rattle.stream_job.specs.Machines.{IsMachineAt, most_in}
use Rattle.stream_job.specs.Places.{MaySignal, place_in_state}
use Rattle.stream_job.specs.Stepping.{MayStep}
use Rattle.stream_job.specs.declared.machine.Machine.{Machine}
use Rattle.stream_job.specs.declared.task_state.TaskState.{TaskState}

-- ---- one element of a list is set

pub set_same : {X : Type 0} (xs : List X) (i : ℕ) (x : X) → i < length xs
    → slice_get (set xs i x) i ≡ Some x
set_same xs i x lt =
    let long = length-set xs i x in
    slice_get-get_or (set xs i x) i x (omega arith)
    ∙ ap (λ y. Some y) (get_or-set_same xs i x x lt)

set_other : {X : Type 0} (xs : List X) (i j : ℕ) (x : X) → j ≢ i
    → slice_get (set xs i x) j ≡ slice_get xs j
set_other [] i j x apart = refl
set_other (y ∷ ys) zero zero x apart = absurd (apart refl)
set_other (y ∷ ys) zero (suc j) x apart = refl
set_other (y ∷ ys) (suc i) zero x apart = refl
set_other (y ∷ ys) (suc i) (suc j) x apart =
    set_other ys i j x (λ same. apart (ap suc same))

-- an element within a list
pub element : {X : Type 0} (xs : List X) (i : ℕ) → i < length xs
    → (x : X) × (slice_get xs i ≡ Some x)
element [] i lt = absurd (omega arith)
element (x ∷ xs) zero lt = (x, refl)
element (x ∷ xs) (suc i) lt = element xs i (omega arith)

-- ---- the tasks of a machine

-- by the state of a task
pub most_is : (machine : Machine) (t : ℕ) (state : TaskState)
    → slice_get machine.tasks.items t ≡ Some state → most_in machine t ≡ state.most
most_is machine t state found = rw found refl

-- tasks that are the same
pub mosts_same : (old new : Machine) → new.tasks ≡ old.tasks → (u : ℕ)
    → most_in new u ≡ most_in old u
mosts_same old new same u = rw same refl

-- one state is set, which signals as many
pub mosts_set : (old new : Machine) (t : ℕ) (state left : TaskState)
    → slice_get old.tasks.items t ≡ Some state
    → new.tasks.items ≡ set old.tasks.items t left → left.most ≡ state.most → (u : ℕ)
    → most_in new u ≡ most_in old u
mosts_set old new t state left found tasks same u = by (eqb u t) refl
  where
    by : (b : Bool) → eqb u t ≡ b → most_in new u ≡ most_in old u
    by true e =
        let here : u ≡ t = eqb-true u t e in
        let there : slice_get new.tasks.items t ≡ Some left =
        ap (λ xs. slice_get xs t) tasks
        ∙ set_same old.tasks.items t left (slice_get_within old.tasks.items t state found) in
        ap (most_in new) here ∙ most_is new t left there ∙ same
        ∙ sym (most_is old t state found) ∙ sym (ap (most_in old) here)
    by false e =
        let apart : u ≢ t = λ same. (
        let yes : eqb u t ≡ true = ap (λ n. eqb n t) same ∙ eq-eqb t t refl in
        let wrong : true ≡ false = sym yes ∙ e in cc) in
        let there : slice_get new.tasks.items u ≡ slice_get old.tasks.items u =
        ap (λ xs. slice_get xs u) tasks ∙ set_other old.tasks.items t u left apart in
        rw there refl

-- what a state keeps of its place, as the turn has it
pub stands_in : (job : Job) (machine : Machine) (m : Moment) (t : ℕ) (state : TaskState)
    → IsMachineAt job m machine → slice_get machine.tasks.items t ≡ Some state
    → StandsUpTo (most_in machine t) job m t (place_in_state state)
stands_in job machine m t state at found =
    subst (λ n. StandsUpTo n job m t (place_in_state state)) (sym (most_is machine t state found))
    (at.tasks t state found).stands

-- what one event of a task may signal, as the machine has it
pub may_signal_in : (job : Job) (machine : Machine) (m : Moment) (t : ℕ) → IsMachineAt job m machine
    → t < length job.graph.tasks → MaySignal job t (most_in machine t)
may_signal_in job machine m t at there =
    let many = at.tasks_many in
    let some = element machine.tasks.items t (omega arith) in
    subst (MaySignal job t) (sym (most_is machine t some.0 some.1)) (at.tasks t some.0 some.1).most

-- a block of the line, and that, are sizes of a turn
pub line_may : (job : Job) (machine : Machine) (m : Moment) (t : ℕ) → IsMachineAt job m machine
    → MayStep job machine t (task_at job.graph t).block
line_may job machine m t at there =
    let may = may_signal_in job machine m t at there in
    record {
      block = (line_sizes job t at.graph there).block;
      owed = may.block;
      few = λ fir. may.least;
    }

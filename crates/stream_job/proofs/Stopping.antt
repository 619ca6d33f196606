-- Where a run that is fed stops: what is told of a task by its state, its input and its line.
use Rattle.std.proofs.Common.{◌≡◌, ◌≢◌, ℕ, ℤ, List, ◌+◌, ◌-◌, ◌++◌, ◌<◌, ◌≤◌, ◌&&◌, ◌⊎◌, inl, inr, Bool, true, false, eqb, not, Some, length, drop, get_or, slice_get, refl, sym, ap, ◌∙◌, arith, length-append}
use Rattle.std.specs.Prelude.{nat_le, nat_lt}
use Rattle.std.proofs.Math.Bool.{and-true, and-false}
use Rattle.std.proofs.lemmas.Bool.{cases_lt, eq-eqb, le-leb, le-ltb, lt-leb, lt-ltb, ne_eqb}
use Rattle.std.proofs.lemmas.List.{length-drop}
use Rattle.std.proofs.lemmas.Option.{slice_get_read, slice_get_within}
use Rattle.graph_base.specs.Graphs.{source_number, task_at}
use Rattle.stream_lists.specs.Jobs.{Job, with_samples}
use Rattle.stream_lists.specs.Lists.{is_sink_at, sinks_of}
use Rattle.stream_eval.specs.declared.whole.Lines.{Lines}
use Rattle.stream_lists.proofs.Basics.{sink_kind}
use Rattle.graph_runs.specs.Moments.{Moment}
use Rattle.stream_job.specs.Machines.{IsMachineAt, KeepsLines, kept_behind}
use Rattle.stream_job.specs.SinkLines.{kept_by}
use Rattle.stream_job.specs.Streams.{StreamState, ended_at}
use Rattle.stream_job.specs.declared.input.Input.{Input}
use Rattle.stream_job.specs.declared.machine.Machine.{Machine}
use Rattle.stream_job.specs.declared.task_state.TaskState.{TaskState}
use Rattle.stream_job.proofs.Rooms.{line_is}

-- ---- the states

-- the state of a task is read at its number
pub state_at : (job : Job) (machine : Machine) (m : Moment) (t : ℕ) (state : TaskState)
    → IsMachineAt job m machine → t < length job.graph.tasks
    → state ≡ get_or machine.tasks.items t state → slice_get machine.tasks.items t ≡ Some state
state_at job machine m t state at there read =
    let many : length machine.tasks.items ≡ length job.graph.tasks = at.tasks_many in
    slice_get_read machine.tasks.items (length machine.tasks.items) t state refl (omega arith) read

-- lines say nothing of samples
pub with_samples_lines : (s : List (List ℤ)) (job : Job) (given : ℕ → List ℤ) (m : Moment)
    (lines : List Lines) → KeepsLines job given m lines
    → KeepsLines (with_samples s job) given m lines
with_samples_lines s job given m lines kept =
    record { values = kept.values; starts = kept.starts }

pub without_samples_lines : (s : List (List ℤ)) (job : Job) (given : ℕ → List ℤ) (m : Moment)
    (lines : List Lines) → KeepsLines (with_samples s job) given m lines
    → KeepsLines job given m lines
without_samples_lines s job given m lines kept =
    record { values = kept.values; starts = kept.starts }

-- ---- hunger

-- whether a source has ended stands in its input
pub ended_so : (stream : StreamState) (t : ℕ) (input : Input)
    → slice_get stream.inputs (source_number stream.job.graph.tasks t) ≡ Some input
    → ended_at stream t ≡ input.ended
ended_so stream t input found = rw found refl

pub starved_not_ended : (starved ended : Bool) → ended ≡ true → (starved && not ended) ≡ false
starved_not_ended starved ended is = ap (λ b. starved && not b) is ∙ and-false starved

-- a source at its `until` is not starved
pub starved_not_cut : (source cut low may : Bool) → cut ≡ true
    → (source && not cut && low && may) ≡ false
starved_not_cut source cut low may is =
    ap (λ b. source && not b && low && may) is ∙ ap (λ b. b && low && may) (and-false source)

pub starved_by_low : (source cut low ended low' : Bool) → source ≡ true → cut ≡ false
    → ended ≡ false → low ≡ low' → (source && not cut && low && not ended) ≡ low'
starved_by_low source cut low ended low' one uncut still same =
    ap (λ b. b && not cut && low && not ended) one ∙ ap (λ b. not b && low && not ended) uncut
    ∙ ap (λ b. low && not b) still ∙ and-true low ∙ same

-- it has signalled all where none is left
pub low_by : (begun : ℕ) (xs rest : List ℤ) → drop begun xs ≡ rest
    → nat_le (length xs) begun ≡ eqb (length rest) 0
low_by begun xs rest same = by (cases_lt begun (length xs))
  where
    left : length rest ≡ length xs - begun
    left = ap length (sym same) ∙ length-drop begun xs

    by : (begun < length xs) ⊎ (length xs ≤ begun)
        → nat_le (length xs) begun ≡ eqb (length rest) 0
    by (inl lt) =
        let many = left in
        let some : length rest ≢ 0 = λ none. (let wrong : length rest ≡ 0 = none in omega arith) in
        lt-leb (length xs) begun lt ∙ sym (ne_eqb (length rest) 0 some)
    by (inr le) =
        let many = left in
        let none : length rest ≡ 0 = omega arith in
        le-leb (length xs) begun le ∙ sym (eq-eqb (length rest) 0 none)

-- ---- room

-- a sink has a line
pub line_there : (job : Job) (machine : Machine) (m : Moment) (t : ℕ) (state : TaskState)
    → IsMachineAt job m machine → slice_get machine.tasks.items t ≡ Some state
    → is_sink_at job t ≡ true → state.sink < length machine.lines.items
line_there job machine m t state at found sink =
    let place = (at.tasks t state found).sink (sink_kind (task_at job.graph t).kind sink) in
    let lt : state.sink < length (sinks_of job) =
    slice_get_within (sinks_of job) state.sink t place in
    let many : length machine.lines.items ≡ length (sinks_of job) = at.lines_many in
    omega arith

-- which has as many values as the sink kept and did not hand over
pub line_holds : (job : Job) (given : ℕ → List ℤ) (machine : Machine) (m : Moment) (t : ℕ)
    (state : TaskState) (line : Lines) → IsMachineAt job m machine
    → slice_get machine.tasks.items t ≡ Some state → is_sink_at job t ≡ true
    → KeepsLines job given m machine.lines.items
    → slice_get machine.lines.items state.sink ≡ Some line
    → (line.task ≡ t)
    × (length line.values.items ≡ length (kept_by job m t) - length (given t))
line_holds job given machine m t state line at found sink kept read =
    let place = (at.tasks t state found).sink (sink_kind (task_at job.graph t).kind sink) in
    let here : kept_behind given line ≡ (t, kept_by job m t) =
    line_is job given m machine.lines.items state.sink t line kept place read in
    let owner : line.task ≡ t = ap (λ x. x.0) here in
    let all : length (given line.task ++ line.values.items) ≡ length (kept_by job m t) =
    ap (λ x. length x.1) here in
    let parts = length-append (given line.task) line.values.items in
    let same : length (given line.task) ≡ length (given t) = ap (λ u. length (given u)) owner in
    (owner, omega arith)

-- where it keeps more than its room there is none for another block
pub no_room_over : (room kept steps : ℕ) → room < kept
    → nat_lt room (kept + steps) ≡ nat_lt room kept
no_room_over room kept steps lt =
    lt-ltb room (kept + steps) (omega arith) ∙ sym (lt-ltb room kept lt)

-- else there is as much as is left
pub no_room_left : (room kept steps : ℕ) → kept ≤ room
    → nat_lt room (kept + steps) ≡ nat_lt (room - kept) steps
no_room_left room kept steps le = by (cases_lt room (kept + steps))
  where
    by : (room < kept + steps) ⊎ (kept + steps ≤ room)
        → nat_lt room (kept + steps) ≡ nat_lt (room - kept) steps
    by (inl lt) =
        lt-ltb room (kept + steps) lt ∙ sym (lt-ltb (room - kept) steps (omega arith))
    by (inr past) =
        le-ltb room (kept + steps) past ∙ sym (le-ltb (room - kept) steps (omega arith))

-- Which values have to be in range, and the first that is not.
use Rattle.std.specs.Prelude.{◌≡◌, ℕ, ◌+◌, ◌&&◌, Bool, true, false, List, [], ◌∷◌, ◌++◌, length, map, Option, Some, None, ℤ, get_or, nat_lt, nat_le, not, if◌then◌else◌, unsigned_abs, Result, Ok, Err}
use Rattle.std.specs.Option.{option_map}
use Rattle.std.specs.List.{range_with_len, list_any, find, position_from}
use Rattle.phase_accum.specs.declared.outcome.Outcome.{Outcome}
use Rattle.phase_accum.specs.declared.outcome.Outcome.TheVariants.{Value, Empty, TooBig}
use Rattle.phase_accum.specs.Sends.{value_max}
use Rattle.graph_base.specs.Graphs.{Task, task_at, phaser_at}
use Rattle.stream_lists.specs.Jobs.{Job, index_in}
use Rattle.stream_lists.specs.Spans.{nowhere, signalled_by, takes_from, Schedule, schedule_of}
use Rattle.stream_lists.specs.Lists.{Contribution, contributions_on, output_on, sends_in, value_by, numbers_above, lines_of}
use Rattle.stream_lists.specs.declared.span.Span.{Span}
use Rattle.graph_base.specs.declared.line.Kind.{Kind}
use Rattle.graph_base.specs.declared.line.Kind.TheVariants.{Source, Fir, Split, Decimate, Join, Peer, Sink}
use Rattle.graph_base.specs.declared.place.Place.{Place}
use Rattle.graph_base.specs.declared.place.Place.TheVariants as place

-- a value out of range: the phaser with the phase, or the task with the step
abbrev pub Where : Type 0
Where = Place × ℕ

-- the first of these that is there
abbrev pub first_some : {A : Type 0} → List (Option A) → Option A
first_some [] = None
first_some (None ∷ os) = first_some os
first_some (Some a ∷ os) = Some a

-- ---- the outputs of filters and peers

-- whether a number is past the greatest value or below the least
abbrev pub is_out_of_range : ℤ → Bool
is_out_of_range z = not (nat_le (unsigned_abs z) value_max)

-- whether the values that a task puts on its output number j are made by it: a filter's, and a
-- peer's on Y
abbrev pub are_made : Kind → ℕ → Bool
are_made Fir j = true
are_made Peer j = nat_lt 0 j
are_made Source j = false
are_made Split j = false
are_made Decimate j = false
are_made Join j = false
are_made Sink j = false

-- the first step at which a task of this kind makes a value that is out of range, where it puts
-- this list on its output number j
abbrev pub list_fault : Kind → ℕ → List ℤ → Option ℕ
list_fault kind j list = if are_made kind j then position_from is_out_of_range 0 list else None

-- the first step at which what task number t makes on its output number j is out of range
abbrev pub made_fault : Job → Schedule → List (List ℤ) → ℕ → ℕ → Option ℕ
made_fault job schedule lists t j =
    list_fault (task_at job.graph t).kind j (output_on job schedule lists t j)

-- the same of a live task, on the phaser that is its output number j
abbrev pub output_fault : Job → Schedule → List (List ℤ) → ℕ → Option ℕ → Option ℕ
output_fault job schedule lists t None = None
output_fault job schedule lists t (Some j) =
    if (get_or schedule.spans t nowhere).live then made_fault job schedule lists t j else None

-- where what task number t makes on phaser p is first out of range
abbrev pub output_fault_of : Job → Schedule → List (List ℤ) → ℕ → ℕ → Option Where
output_fault_of job schedule lists p t =
    option_map (λ step. (place.Task t, step))
    (output_fault job schedule lists t (index_in (signalled_by (task_at job.graph t)) p))

-- ---- the phases that some task takes

-- whether a live task takes phase n of its input number k
abbrev pub takes_phase : Task → Span → ℕ → Option ℕ → Bool
takes_phase task span n None = false
takes_phase task span n (Some k) =
    span.live && nat_le span.offset n && nat_lt n (span.offset + takes_from task span.steps k)

-- whether task t takes phase n of phaser p
abbrev pub task_takes : Job → Schedule → ℕ → ℕ → ℕ → Bool
task_takes job schedule p n t =
    let task = task_at job.graph t in
    takes_phase task (get_or schedule.spans t nowhere) n (index_in task.inputs p)

-- whether some task takes phase n of phaser p
abbrev pub is_taken : Job → Schedule → ℕ → ℕ → Bool
is_taken job schedule p n =
    list_any (task_takes job schedule p n) (range_with_len 0 (length job.graph.tasks))

-- whether the value of a phase is out of range
abbrev pub is_too_big : Outcome → Bool
is_too_big TooBig = true
is_too_big (Value v) = false
is_too_big Empty = false

-- whether the value of phase n of phaser p, with these members, is too big and some task takes it
abbrev pub is_fault : (List ℤ → Outcome) → Job → Schedule → List Contribution → ℕ → ℕ → Bool
is_fault value job schedule members p n =
    is_too_big (value (sends_in members n)) && is_taken job schedule p n

-- the first of so many phases of phaser p whose value is too big and that some task takes
abbrev pub first_fault : (List ℤ → Outcome) → Job → Schedule → List Contribution → ℕ → ℕ → Option ℕ
first_fault value job schedule members p count =
    find (is_fault value job schedule members p) (range_with_len 0 count)

-- the same of all its phases, over the numbers of the lists of the phasers above
abbrev pub phase_fault_of : Job → Schedule → List (List ℤ) → ℕ → Option Where
phase_fault_of job schedule above p =
    let value = value_by (phaser_at job.graph p).op in
    option_map (λ n. (place.Phaser p, n))
    (first_fault value job schedule (contributions_on job schedule above p) p
    (get_or schedule.lengths p 0))

-- ---- the order

-- what each task makes on phaser p, in the order of the lines
abbrev pub output_faults : Job → Schedule → List (List ℤ) → ℕ → List (Option Where)
output_faults job schedule above p =
    map (output_fault_of job schedule above p) (range_with_len 0 (length job.graph.tasks))

-- the first value out of range on phaser p, over the numbers of the lists of the phasers above:
-- the outputs of its members come before its phases
abbrev pub fault_over : Job → Schedule → List (List ℤ) → ℕ → Option Where
fault_over job schedule above p =
    first_some (output_faults job schedule above p ++ phase_fault_of job schedule above p ∷ [])

-- the first value out of range on phaser p
abbrev pub fault_on : Job → ℕ → Option Where
fault_on job p = fault_over job (schedule_of job) (numbers_above job p) p

-- the first value out of range of all
abbrev pub first_too_big : Job → Option Where
first_too_big job = first_some (map (fault_on job) (range_with_len 0 (length job.graph.phasers)))

-- each value that has to be in range is
abbrev pub Fits : Job → Type 0
Fits job = first_too_big job ≡ None

-- the lines of the sinks, or the first value out of range
abbrev pub answer_of : Job → Result (List (ℕ × List ℤ)) Where
answer_of job = of (first_too_big job)
  where
    of : Option Where → Result (List (ℕ × List ℤ)) Where
    of None = Ok (lines_of job)
    of (Some found) = Err found

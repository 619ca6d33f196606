-- How far each task comes, and how long the list of each phaser is. Both follow from the lines and
-- from the numbers of the samples alone.
use Rattle.std.specs.Prelude.{◌≡◌, ℕ, zero, suc, ◌+◌, ◌-◌, ◌*◌, ◌/◌, true, false, ◌&&◌, List, [], ◌∷◌, ◌++◌, length, map, Option, Some, None, get_or, nat_le, if◌then◌else◌, min, max}
use Rattle.std.specs.List.{range_with_len, fold}
use Rattle.graph_base.specs.Graphs.{Graph, Task, task_at}
pub use Rattle.graph_base.specs.Registrations.{signalled_by}
use Rattle.stream_lists.specs.Jobs.{Job, samples_at, start_at, index_in}
use Rattle.stream_lists.specs.declared.span.Span.{Span}
use Rattle.graph_base.specs.declared.line.Parent.{Parent}
use Rattle.graph_base.specs.declared.line.Kind.{Kind}
use Rattle.graph_base.specs.declared.line.Kind.TheVariants.{Source, Split, Decimate, Join, Peer}

-- of a task that is not live
abbrev pub nowhere : Span
nowhere = record { live = false; offset = 0; steps = 0 }

-- ---- one task

-- how many of the steps below n are step k, k + m, k + 2 * m, ..
abbrev pub turns_below : ℕ → ℕ → ℕ → ℕ
turns_below m k n = (n + (m - 1 - k)) / m

-- output number j looks at input number k: a peer's E at X alone, each other output at all inputs.
-- What the steps of a task look at is what output 0 does
abbrev pub LooksAt : Kind → ℕ → ℕ → Type 0
LooksAt Peer zero k = k ≡ 0
LooksAt Peer (suc j) k = Unit {0}
LooksAt kind j k = Unit {0}

-- how many values so many steps put on (produce at) output number j: of a splitter's outputs each
-- has its turn, and a decimator puts one at each so many steps, from the first on
abbrev pub puts_on : Task → ℕ → ℕ → ℕ
puts_on task steps j = of task.kind
  where
    of : Kind → ℕ
    of Split = turns_below (length task.outputs) j steps
    of Decimate = turns_below task.every 0 steps
    of kind = steps

-- how many values so many steps take from (consume at) input number k: of a joiner's inputs each
-- has its turn
abbrev pub takes_from : Task → ℕ → ℕ → ℕ
takes_from task steps k = of task.kind
  where
    of : Kind → ℕ
    of Join = turns_below (length task.inputs) k steps
    of kind = steps

-- input number k of m, with these numbers of values, runs out at this step
abbrev pub run_out : List ℕ → ℕ → ℕ
run_out values k = k + length values * get_or values k 0

-- the step at which the first input runs out
abbrev pub first_run_out : List ℕ → ℕ
first_run_out values =
    fold min (run_out values 0) (map (run_out values) (range_with_len 0 (length values)))

-- how many steps a task's samples, or its inputs with so many values, are enough for
abbrev pub enough_for : Task → ℕ → List ℕ → ℕ
enough_for task samples values = of task.kind
  where
    of : Kind → ℕ
    of Source = samples
    of Join = first_run_out values
    of kind = get_or values 0 0

-- at most `until` steps
abbrev pub cut_at : Option ℕ → ℕ → ℕ
cut_at None n = n
cut_at (Some until) n = min until n

-- the offset of a task, where it is live: a child's is `at` steps after its parent's, if the parent
-- makes as many, and at least its start
abbrev pub offset_of : List Span → ℕ → Option Parent → Option ℕ
offset_of above start None = Some 0
offset_of above start (Some parent) =
    let span = get_or above parent.task nowhere in
    if span.live && nat_le parent.at span.steps
    then Some (max start (span.offset + parent.at)) else None

-- ---- all tasks, over phasers' lists of these lengths

-- how many values a task's inputs have from an offset on
abbrev pub values_from : Task → List ℕ → ℕ → List ℕ
values_from task lengths offset = map (λ p. get_or lengths p 0 - offset) task.inputs

-- the span of a task with so many samples, at its offset
abbrev pub span_at : Task → ℕ → List ℕ → Option ℕ → Span
span_at task samples lengths None = nowhere
span_at task samples lengths (Some offset) = record {
  live = true;
  offset = offset;
  steps = cut_at task.until (enough_for task samples (values_from task lengths offset));
}

-- the span of task number t, below the spans of the tasks above it
abbrev pub span_of : Job → List ℕ → List Span → ℕ → Span
span_of job lengths above t =
    let task = task_at job.graph t in
    span_at task (length (samples_at job t)) lengths (offset_of above (start_at job t) task.parent)

-- the spans of the first n tasks
abbrev pub spans_up_to : Job → List ℕ → ℕ → List Span
spans_up_to job lengths n =
    fold (λ above t. above ++ span_of job lengths above t ∷ []) [] (range_with_len 0 n)

-- the spans of all tasks
abbrev pub spans_over : Job → List ℕ → List Span
spans_over job lengths = spans_up_to job lengths (length job.graph.tasks)

-- ---- all phasers

-- where a task ends on the phaser that is its output number j: one past the last phase that it
-- signals, or 0
abbrev pub end_on : Task → Span → Option ℕ → ℕ
end_on task span None = 0
end_on task span (Some j) = if span.live then span.offset + puts_on task span.steps j else 0

-- where task number t ends on phaser p
abbrev pub end_of : Graph → List Span → ℕ → ℕ → ℕ
end_of graph spans p t =
    let task = task_at graph t in
    end_on task (get_or spans t nowhere) (index_in (signalled_by task) p)

-- the greatest number of a list, or 0
abbrev pub greatest : List ℕ → ℕ
greatest ns = fold max 0 ns

-- the length of a phaser's list: the greatest end of a task on it
abbrev pub length_on : Graph → List Span → ℕ → ℕ
length_on graph spans p =
    greatest (map (end_of graph spans p) (range_with_len 0 (length graph.tasks)))

-- the lengths of the lists of the first n phasers. A task that signals a phaser has its inputs
-- above it, so that the lengths that are still missing make no difference
abbrev pub lengths_up_to : Job → ℕ → List ℕ
lengths_up_to job n =
    fold (λ above p. above ++ length_on job.graph (spans_over job above) p ∷ [])
    [] (range_with_len 0 n)

-- the lengths of the phasers' lists
abbrev pub lengths_of : Job → List ℕ
lengths_of job = lengths_up_to job (length job.graph.phasers)

-- the span of each task
abbrev pub spans_of : Job → List Span
spans_of job = spans_over job (lengths_of job)

-- the span of task number t
abbrev pub span_in : Job → ℕ → Span
span_in job t = get_or (spans_of job) t nowhere

-- ---- both

-- the schedule of a graph: how far each task comes, and how long the list of each phaser is. A
-- task's firings are its steps, from the phase of its offset on
pub record Schedule : Type 0 where
  pub spans : List Span
  pub lengths : List ℕ

-- the schedule that a job's lines and numbers of samples give
abbrev pub schedule_of : Job → Schedule
schedule_of job = record { spans = spans_of job; lengths = lengths_of job }

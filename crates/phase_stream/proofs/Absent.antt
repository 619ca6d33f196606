-- A sink whose parent, a sink too, has left before it came never begins.
use Rattle.std.proofs.Common.{◌≡◌, ◌≢◌, ◌⊎◌, inl, inr, ◌<◌, ◌≤◌, ◌&&◌, ◌∙◌, ℕ, ℤ, Bool, true, false, List, [], Some, None, length, set, slice_get, refl, sym, ap, subst, arith}
use Rattle.std.proofs.lemmas.Bool.{lt-leb}
use Rattle.std.specs.Prelude.{nat_le, if◌then◌else◌}
use Rattle.graph_base.specs.Graphs.{task_at}
use Rattle.graph_base.specs.TaskLines.{IsGraph, IsTaskLine}
use Rattle.graph_base.specs.declared.line.Parent.{Parent}
use Rattle.graph_runs.specs.InTime.{BeginsInTime}
use Rattle.graph_runs.specs.Moments.{Moment, started}
use Rattle.stream_lists.specs.Jobs.{Job, samples_at, start_at, with_samples}
use Rattle.stream_lists.specs.Lists.{is_sink_at, numbers_of}
use Rattle.stream_lists.specs.declared.span.Span.{Span}
use Rattle.stream_lists.specs.Spans.{lengths_of, nowhere, offset_of, span_at, span_in, spans_of}
use mathlib.Core.List.{IsPrefix}
use Rattle.stream_lists.proofs.Basics.{sink_kind}
use Rattle.stream_lists.proofs.ListLengths.{length-first, takes_one}
use Rattle.stream_lists.proofs.ListsAbove.{first_taken}
use Rattle.stream_lists.proofs.SpansAbove.{parent-is, spans_all}
use Rattle.phase_stream.specs.Columns.{ColumnStands, InRuns, NeverComes}
use Rattle.phase_stream.specs.Sessions.{sink_list}
use Rattle.phase_stream.specs.TableLines.{Shows, View}
use Rattle.phase_stream.specs.declared.column.Column.{Column}
use Rattle.phase_stream.proofs.RightColumns.{dead_list, none_before}
use Rattle.phase_stream.proofs.RightTables.{column_there}
use Rattle.phase_stream.proofs.Standing.{set_get}
use Rattle.phase_stream.proofs.TakenLines.{columns_tasks}
use Rattle.phase_stream.proofs.TurnedTables.{left_stands}

-- a sink has a value a step
sink_long : (job : Job) (t : ℕ) → IsGraph job.graph → t < length job.graph.tasks
    → is_sink_at job t ≡ true → length (sink_list job t) ≡ (span_in job t).steps
sink_long job t is there sink =
    let task = task_at job.graph t in
    let kind = sink_kind task.kind sink in
    let line : IsTaskLine job.graph t task = is.tasks t there in
    let both : (length task.inputs ≡ 1) × (length task.outputs ≡ 0) = rw kind at line.ends in
    let one = both.0 in
    let some : 0 < length task.inputs = omega (arith, one) in
    sym (ap length (first_taken (numbers_of job) task (span_in job t) some))
    ∙ length-first job t is there (ap takes_one kind)

-- a child of a task that makes fewer steps than those after which it comes is nowhere
none_offset : (live : Bool) (at steps offset : ℕ) → steps < at
    → (if live && nat_le at steps then Some offset else None) ≡ None
none_offset true at steps offset few =
    ap (λ b. if b then Some offset else None) (lt-leb at steps few)
none_offset false at steps offset few = refl

absent_span : (job : Job) (t : ℕ) (parent : Parent) → IsGraph job.graph
    → t < length job.graph.tasks → (task_at job.graph t).parent ≡ Some parent
    → (span_in job parent.task).steps < parent.at → span_in job t ≡ nowhere
absent_span job t parent is there child few =
    let task = task_at job.graph t in
    let none : offset_of (spans_of job) (start_at job t) task.parent ≡ None =
    ap (offset_of (spans_of job) (start_at job t)) child
    ∙ none_offset (span_in job parent.task).live parent.at (span_in job parent.task).steps _ few in
    spans_all job t is there
    ∙ ap (span_at task (length (samples_at job t)) (lengths_of job)) none

-- what is nowhere has no start
no_start : (now : Bool) (start : ℕ) → (if now && false then Some 0 else None) ≡ Some start → ⊥
no_start true start e = let wrong : None ≡ Some start = e in cc
no_start false start e = let wrong : None ≡ Some start = e in cc

-- so it has no values, and is in time, in each run that goes on so
absent_runs : (job : Job) (ended : ℕ → Bool) (s : List (List ℤ)) (m : Moment) (g h : List ℤ)
    (column by : Column) (step start start_by : ℕ) (list list_by : List ℤ) (parent : Parent)
    → ColumnStands job ended s m g column step start list
    → ColumnStands job ended s m h by step start_by list_by
    → column.task < length job.graph.tasks → by.task < length job.graph.tasks
    → is_sink_at job column.task ≡ true → is_sink_at job by.task ≡ true
    → (task_at job.graph column.task).parent ≡ Some parent → by.task ≡ parent.task
    → by.has_left ≡ true → by.count < parent.at → InRuns job ended s m (λ run.
    (list ≡ sink_list run column.task) × BeginsInTime run column.task)
absent_runs job ended s m g h column by step start start_by list list_by parent stands others there
    there_by sink sink_by child same left few more fed ready =
    let run = started (with_samples more job) m in
    let all = (others.whole left more fed ready).0 in
    let long : length list_by ≡ (span_in run by.task).steps =
    ap length all ∙ sink_long run by.task ready.graph there_by sink_by in
    let counted = others.counted in
    let small : parent.at ≤ 4611686018427387904 =
    (parent-is job.graph column.task (task_at job.graph column.task) parent
    (ready.graph.tasks column.task there) child).steps in
    let behind : (span_in run by.task).steps < parent.at = omega (arith, long, counted, few, small) in
    let nowhere_is : span_in run column.task ≡ nowhere =
    absent_span run column.task parent ready.graph there child
    (subst (λ p. (span_in run p).steps < parent.at) same behind) in
    let none : sink_list run column.task ≡ [] =
    dead_list run column.task ready.graph there sink (ap (λ x. x.live) nowhere_is) in (
      none_before list (subst (IsPrefix list) none (stands.begins more fed ready)) ∙ sym none,
      λ n e. absurd (no_start (task_at job.graph column.task).joins_now n
          (sym (ap (λ (span : Span). if (task_at job.graph column.task).joins_now && span.live
          then Some span.offset else None) nowhere_is) ∙ e)),
    )

-- ---- a table

-- the column of a sink that never comes has left
pub shows_absent : (job : Job) (ended : ℕ → Bool) (going : Bool) (s : List (List ℤ)) (m : Moment)
    (given : ℕ → List ℤ) (columns : List Column) (view : View) (n : ℕ) (column new : Column)
    → slice_get columns n ≡ Some column → NeverComes job columns column
    → new ≡ record column { has_left = true } → Shows job ended going s m given columns view
    → Shows job ended going s m given (set columns n new) view
shows_absent job ended going s m given columns view n column new got never is shows = record {
  tasks = columns_tasks columns n column new got (ap (λ (c : Column). c.task) is) ∙ shows.tasks;
  stand = λ k after there. stand k after (set_get columns n k new after there);
  last = shows.last;
  left = λ goes k after there. left goes k after (set_get columns n k new after there);
}
  where
    here : ColumnStands job ended s m (given n) new view.step (view.starts n) (view.lists n)
    here =
        let place = column_there job columns n column shows.tasks got in
        let others = column_there job columns never.place never.by shows.tasks never.there in
        left_stands job ended s m (given n) column new view.step (view.starts n) (view.lists n) is
        (absent_runs job ended s m (given n) (given never.place) column never.by view.step
        (view.starts n) (view.starts never.place) (view.lists n) (view.lists never.place)
        never.parent (shows.stand n column got) (shows.stand never.place never.by never.there)
        place.3 others.3 place.2 others.2 never.is_child never.task never.left never.few)
        (shows.stand n column got)

    stand : (k : ℕ) (after : Column)
        → ((k ≡ n) × (after ≡ new)) ⊎ ((k ≢ n) × (slice_get columns k ≡ Some after))
        → ColumnStands job ended s m (given k) after view.step (view.starts k) (view.lists k)
    stand k after (inl it) =
        subst (λ (c : Column). ColumnStands job ended s m (given k) c view.step (view.starts k)
        (view.lists k)) (sym it.1)
        (subst (λ j. ColumnStands job ended s m (given j) new view.step (view.starts j)
        (view.lists j)) (sym it.0) here)
    stand k after (inr other) = shows.stand k after other.1

    left : going ≡ true → (k : ℕ) (after : Column)
        → ((k ≡ n) × (after ≡ new)) ⊎ ((k ≢ n) × (slice_get columns k ≡ Some after))
        → after.has_start ≡ false → after.has_left ≡ false
    left goes k after (inl it) unknown =
        let same : after.has_start ≡ column.has_start = ap (λ (c : Column). c.has_start) (it.1 ∙ is) in
        absurd (let wrong : true ≡ false = sym never.started ∙ (sym same ∙ unknown) in cc)
    left goes k after (inr other) unknown = shows.left goes k after other.1 unknown

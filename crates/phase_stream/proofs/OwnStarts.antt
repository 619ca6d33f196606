-- The start of a sink that joins now moves that sink alone: the values of the phasers stay, and a
-- sink whose own start stays has the same values.
use Rattle.std.proofs.Common.{◌≡◌, ◌<◌, ◌≤◌, ◌++◌, ◌&&◌, ℕ, ℤ, List, [], ◌∷◌, Option, Some, None, length, get_or, map, refl, sym, ap, subst, ◌∙◌, arith}
use Rattle.std.specs.Prelude.{if◌then◌else◌}
use Rattle.std.specs.List.{range_with_len}
use Rattle.graph_base.specs.Graphs.{phaser_at, task_at}
use Rattle.graph_base.specs.TaskLines.{IsGraph, IsParent, IsTaskLine}
use Rattle.graph_base.specs.declared.line.Parent.{Parent}
use Rattle.graph_runs.specs.InTime.{BeginsInTime}
use Rattle.graph_runs.specs.Moments.{input_at}
use Rattle.stream_lists.specs.Jobs.{Job, index_in, samples_at, start_at, with_starts}
use Rattle.stream_lists.specs.Lists.{contribution_at, contribution_by, contributions_on, list_over, number, numbers_of, output_list, phase_in, taken_by, taken_from, value_by}
use Rattle.stream_lists.specs.Spans.{lengths_of, nowhere, offset_of, schedule_of, signalled_by, span_at, span_in, spans_of}
use Rattle.stream_lists.specs.declared.span.Span.{Span}
use Rattle.stream_lists.proofs.EachPhase.{signaller_stays}
use Rattle.stream_lists.proofs.Growing.{filter_map-same}
use Rattle.stream_lists.proofs.SpansAbove.{parent-is, same_offset, spans_all}
use Rattle.stream_lists.proofs.Starts.{fold-same, lengths_stay, others_stay}
use Rattle.phase_stream.specs.Sessions.{sink_list}

-- ---- the values of the phasers

-- who joins now signals nothing
contribution_stays : (job : Job) (starts : List ℕ) (lists : List (List ℤ)) (p t : ℕ)
    → IsGraph job.graph → t < length job.graph.tasks
    → contribution_at (with_starts starts job) (schedule_of (with_starts starts job)) lists p t
    ≡ contribution_at job (schedule_of job) lists p t
contribution_stays job starts lists p t is there =
    by (index_in (signalled_by (task_at job.graph t)) p) refl
  where
    by : (place : Option ℕ) → index_in (signalled_by (task_at job.graph t)) p ≡ place
        → contribution_by (with_starts starts job) (schedule_of (with_starts starts job)) lists t
        place
        ≡ contribution_by job (schedule_of job) lists t place
    by None e = refl
    by (Some j) e =
        ap (λ (span : Span). if span.live
        then Some (
          span.offset,
          output_list (samples_at job t) (taken_by lists (task_at job.graph t) span)
              (task_at job.graph t) span.steps j,
        )
        else None)
        (others_stay job starts t is there (signaller_stays job.graph t p j is there e))

list_stays : (job : Job) (starts : List ℕ) (above : List (List ℤ)) (p : ℕ) → IsGraph job.graph
    → list_over (with_starts starts job) (schedule_of (with_starts starts job)) above p
    ≡ list_over job (schedule_of job) above p
list_stays job starts above p is =
    let other = with_starts starts job in
    let value = value_by (phaser_at job.graph p).op in
    let same : contributions_on other (schedule_of other) above p
    ≡ contributions_on job (schedule_of job) above p =
    filter_map-same (contribution_at other (schedule_of other) above p)
    (contribution_at job (schedule_of job) above p) 0 (length job.graph.tasks)
    (λ t less. contribution_stays job starts above p t is (omega arith)) in
    ap (λ members. map (phase_in value job p members)
    (range_with_len 0 (get_or (lengths_of other) p 0))) same
    ∙ ap (λ lengths. map (phase_in value job p (contributions_on job (schedule_of job) above p))
    (range_with_len 0 (get_or lengths p 0))) (lengths_stay job starts is)

pub numbers_stay : (job : Job) (starts : List ℕ) → IsGraph job.graph
    → numbers_of (with_starts starts job) ≡ numbers_of job
numbers_stay job starts is =
    let other = with_starts starts job in
    fold-same
    (λ above p. above ++ map number (list_over other (schedule_of other) above p) ∷ [])
    (λ above p. above ++ map number (list_over job (schedule_of job) above p) ∷ [])
    (range_with_len 0 (length job.graph.phasers)) []
    (λ above p. ap (λ l. above ++ map number l ∷ []) (list_stays job starts above p is))

-- ---- one sink

pub same_span : (job : Job) (starts other : List ℕ) (t : ℕ) → IsGraph job.graph
    → t < length job.graph.tasks
    → start_at (with_starts starts job) t ≡ start_at (with_starts other job) t
    → span_in (with_starts starts job) t ≡ span_in (with_starts other job) t
same_span job starts other t is there same =
    let task = task_at job.graph t in
    let line : IsTaskLine job.graph t task = is.tasks t there in
    let n = length (samples_at job t) in
    let j1 = with_starts starts job in
    let j2 = with_starts other job in
    let above : (u : Parent) → task.parent ≡ Some u
    → get_or (spans_of j1) u.task nowhere ≡ get_or (spans_of j2) u.task nowhere =
    λ u e. (let parent : IsParent job.graph t task u = parent-is job.graph t task u line e in
    let less : u.task < t = parent.above in
    others_stay job starts u.task is (omega arith) parent.stays
    ∙ sym (others_stay job other u.task is (omega arith) parent.stays)) in
    spans_all j1 t is there
    ∙ ap (λ xs. span_at task n xs (offset_of (spans_of j1) (start_at j1 t) task.parent))
    (lengths_stay job starts is ∙ sym (lengths_stay job other is))
    ∙ ap (λ s. span_at task n (lengths_of j2) (offset_of (spans_of j1) s task.parent)) same
    ∙ ap (span_at task n (lengths_of j2))
    (same_offset (spans_of j1) (spans_of j2) (start_at j2 t) task.parent above)
    ∙ sym (spans_all j2 t is there)

pub same_list : (job : Job) (starts other : List ℕ) (t : ℕ) → IsGraph job.graph
    → span_in (with_starts starts job) t ≡ span_in (with_starts other job) t
    → sink_list (with_starts starts job) t ≡ sink_list (with_starts other job) t
same_list job starts other t is same =
    ap (λ lists. taken_from lists (task_at job.graph t) (span_in (with_starts starts job) t) 0)
    (numbers_stay job starts is ∙ sym (numbers_stay job other is))
    ∙ ap (λ span. taken_from (numbers_of (with_starts other job)) (task_at job.graph t) span 0) same

pub same_in_time : (job : Job) (starts other : List ℕ) (t : ℕ) → IsGraph job.graph
    → span_in (with_starts starts job) t ≡ span_in (with_starts other job) t
    → BeginsInTime (with_starts starts job) t → BeginsInTime (with_starts other job) t
same_in_time job starts other t is same in_time = λ start e.
    subst (λ lengths. start ≤ get_or lengths (input_at (task_at job.graph t) 0) 0)
    (lengths_stay job starts is ∙ sym (lengths_stay job other is))
    (in_time start
    (ap (λ (span : Span). if (task_at job.graph t).joins_now && span.live then Some span.offset else None)
    same ∙ e))

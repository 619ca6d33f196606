-- The span of a task, over the spans of the tasks above it, or of all tasks.
use Rattle.std.proofs.Common.{◌≡◌, ℕ, ◌+◌, ◌<◌, List, length, get_or, Some, None, refl, ap, subst}
use Rattle.std.specs.Prelude.{Option, max, IfSome, nat_le, ◌&&◌, if◌then◌else◌}
use Rattle.graph_base.specs.Graphs.{Graph, Task, task_at}
use Rattle.graph_base.specs.TaskLines.{IsGraph, IsTaskLine, IsParent}
use Rattle.graph_base.specs.declared.line.Parent.{Parent}
use Rattle.stream_lists.specs.Jobs.{Job, samples_at, start_at}
use Rattle.stream_lists.specs.Spans.{nowhere, offset_of, span_at, span_of, spans_up_to, spans_over, lengths_of, spans_of, span_in}
use Rattle.stream_lists.specs.declared.span.Span.{Span}
use Rattle.stream_lists.proofs.Growing.{grown-at, grown-whole}

pub parent-is : (graph : Graph) (t : ℕ) (task : Task) (u : Parent) → IsTaskLine graph t task
    → task.parent ≡ Some u → IsParent graph t task u
parent-is graph t task u line e =
    subst (λ (o : Option Parent). IfSome o (λ parent. IsParent graph t task parent)) e line.parent

pub same_offset : (xs ys : List Span) (start : ℕ) (parent : Option Parent)
    → ((u : Parent) → parent ≡ Some u → get_or xs u.task nowhere ≡ get_or ys u.task nowhere)
    → offset_of xs start parent ≡ offset_of ys start parent
same_offset xs ys start None same = refl
same_offset xs ys start (Some u) same =
    ap (λ (s : Span). if s.live && nat_le u.at s.steps
    then Some (max start (s.offset + u.at)) else None)
    (same u refl)

-- over lists of any lengths
pub spans_are : (job : Job) (lengths : List ℕ) (t : ℕ) → IsGraph job.graph
    → t < length job.graph.tasks
    → get_or (spans_over job lengths) t nowhere ≡ span_of job lengths (spans_over job lengths) t
spans_are job lengths t is there =
    let task = task_at job.graph t in
    grown-whole (span_of job lengths) (length job.graph.tasks) t nowhere there
    (λ xs ys same. ap (span_at task (length (samples_at job t)) lengths)
    (same_offset xs ys (start_at job t) task.parent
    (λ u e. same u.task (parent-is job.graph t task u (is.tasks t there) e).above)))

pub spans_above : (job : Job) (t : ℕ) → t < length job.graph.tasks
    → span_in job t ≡ span_of job (lengths_of job) (spans_up_to job (lengths_of job) t) t
spans_above job t there =
    grown-at (span_of job (lengths_of job)) (length job.graph.tasks) t nowhere there

pub spans_all : (job : Job) (t : ℕ) → IsGraph job.graph → t < length job.graph.tasks
    → span_in job t ≡ span_of job (lengths_of job) (spans_of job) t
spans_all job t is there = spans_are job (lengths_of job) t is there

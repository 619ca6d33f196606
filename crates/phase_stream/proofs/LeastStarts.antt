-- The phase at which a task begins at the earliest: one that joins now begins there or later, and
-- each other one there.
use Rattle.std.proofs.Common.{◌≡◌, ◌<◌, ◌≤◌, ◌+◌, ◌*◌, ◌&&◌, ℕ, zero, suc, Bool, true, false, List, Option, Some, None, length, get_or, refl, sym, ap, subst, ◌∙◌, arith}
use Rattle.std.specs.Prelude.{if◌then◌else◌, max, nat_le}
use Rattle.graph_base.specs.Graphs.{task_at}
use Rattle.graph_base.specs.TaskLines.{IsGraph, IsParent, IsTaskLine}
use Rattle.graph_base.specs.declared.line.Parent.{Parent}
use Rattle.stream_lists.specs.Jobs.{Job, samples_at, start_at}
use Rattle.stream_lists.specs.Spans.{lengths_of, nowhere, offset_of, span_at, span_in, spans_of}
use Rattle.stream_lists.specs.declared.span.Span.{Span}
use Rattle.graph_runs.proofs.AtOpening.{opening_has_begun}
use Rattle.stream_lists.proofs.SpansAbove.{parent-is, spans_all}
use Rattle.phase_stream.specs.Columns.{least_start}

-- of a task without a parent it is 0
pub least_of_root : (job : Job) (t : ℕ) → IsGraph job.graph → t < length job.graph.tasks
    → (task_at job.graph t).parent ≡ None → least_start job t ≡ 0
least_of_root job t is there none =
    ((opening_has_begun job is).opened.tasks t there).offset none

-- and of a child so many steps behind its parent's
pub least_of_child : (job : Job) (t : ℕ) (u : Parent) → IsGraph job.graph
    → t < length job.graph.tasks → (task_at job.graph t).parent ≡ Some u
    → least_start job t ≡ least_start job u.task + u.at
least_of_child job t u is there parent = (opening_has_begun job is).offset t u there parent

-- of the first task it is 0
pub least_of_first : (job : Job) → IsGraph job.graph → 0 < length job.graph.tasks
    → least_start job 0 ≡ 0
least_of_first job is there = by (task_at job.graph 0).parent refl
  where
    by : (o : Option Parent) → (task_at job.graph 0).parent ≡ o → least_start job 0 ≡ 0
    by None root = least_of_root job 0 is there root
    by (Some u) parent =
        let above = (parent-is job.graph 0 (task_at job.graph 0) u (is.tasks 0 there) parent).above in
        absurd (omega (arith, above))

-- it is at most so many times the steps that may stand before a child
pub least_few : (job : Job) (limit t : ℕ) → IsGraph job.graph → t < limit
    → t < length job.graph.tasks → least_start job t ≤ t * 4611686018427387904
least_few job zero t is below there = absurd (omega (arith, below))
least_few job (suc limit) t is below there =
    by (task_at job.graph t).parent refl (least_few job limit)
  where
    by : (o : Option Parent) → (task_at job.graph t).parent ≡ o
        → ((u : ℕ) → IsGraph job.graph → u < limit → u < length job.graph.tasks
        → least_start job u ≤ u * 4611686018427387904)
        → least_start job t ≤ t * 4611686018427387904
    by None root rec = let none = least_of_root job t is there root in omega (arith, none)
    by (Some u) parent rec =
        let line = parent-is job.graph t (task_at job.graph t) u (is.tasks t there) parent in
        let above = line.above in
        let steps : u.at ≤ 4611686018427387904 = line.steps in
        let before = rec u.task is (omega (arith, above, below)) (omega (arith, above, there)) in
        let behind = least_of_child job t u is there parent in
        omega (arith, above, steps, before, behind)

-- a task with this span begins so
pub record BeginsFrom (least : ℕ) (now : Bool) (span : Span) : Type 0 where
  pub early : least ≤ span.offset
  pub same : now ≡ false → span.offset ≡ least

gated : (n : ℕ) (lengths : List ℕ) (t : ℕ) (job : Job) (b : Bool) (start at : ℕ) (now : Bool)
    → (now ≡ false → start ≡ 0)
    → (span_at (task_at job.graph t) n lengths (if b then Some (max start at) else None)).live ≡ true
    → BeginsFrom at now
    (span_at (task_at job.graph t) n lengths (if b then Some (max start at) else None))
gated n lengths t job false start at now none live = absurd (cc)
gated n lengths t job true start at now none live = record {
  early = omega arith;
  same = λ stays. (let zero_is = none stays in omega arith);
}

pub begins_from : (job : Job) (limit t : ℕ) → IsGraph job.graph → t < limit
    → t < length job.graph.tasks → (span_in job t).live ≡ true
    → BeginsFrom (least_start job t) (task_at job.graph t).joins_now (span_in job t)
begins_from job zero t is below there live = absurd (omega arith)
begins_from job (suc limit) t is below there live =
    by (task_at job.graph t).parent refl (begins_from job limit)
  where
    no_start : (task_at job.graph t).joins_now ≡ false → start_at job t ≡ 0
    no_start stays = rw stays refl

    by : (o : Option Parent) → (task_at job.graph t).parent ≡ o
        → ((u : ℕ) → IsGraph job.graph → u < limit → u < length job.graph.tasks
        → (span_in job u).live ≡ true
        → BeginsFrom (least_start job u) (task_at job.graph u).joins_now (span_in job u))
        → BeginsFrom (least_start job t) (task_at job.graph t).joins_now (span_in job t)
    by None root rec =
        let task = task_at job.graph t in
        let n = length (samples_at job t) in
        let is_span : span_in job t
        ≡ span_at task n (lengths_of job) (offset_of (spans_of job) (start_at job t) None) =
        spans_all job t is there
        ∙ ap (λ o. span_at task n (lengths_of job) (offset_of (spans_of job) (start_at job t) o)) root in
        let zero_is = least_of_root job t is there root in
        subst (BeginsFrom (least_start job t) task.joins_now) (sym is_span) (record {
          early = omega arith;
          same = λ stays. omega arith;
        })
    by (Some u) parent rec =
        let task = task_at job.graph t in
        let n = length (samples_at job t) in
        let line : IsTaskLine job.graph t task = is.tasks t there in
        let above : IsParent job.graph t task u = parent-is job.graph t task u line parent in
        let less : u.task < t = above.above in
        let is_span : span_in job t
        ≡ span_at task n (lengths_of job) (offset_of (spans_of job) (start_at job t) (Some u)) =
        spans_all job t is there
        ∙ ap (λ o. span_at task n (lengths_of job) (offset_of (spans_of job) (start_at job t) o)) parent in
        child u parent above (rec u.task) (get_or (spans_of job) u.task nowhere) refl is_span
      where
        child : (u : Parent) → (task_at job.graph t).parent ≡ Some u
            → IsParent job.graph t (task_at job.graph t) u
            → (IsGraph job.graph → u.task < limit → u.task < length job.graph.tasks
            → (span_in job u.task).live ≡ true → BeginsFrom (least_start job u.task)
            (task_at job.graph u.task).joins_now (span_in job u.task))
            → (s : Span) → get_or (spans_of job) u.task nowhere ≡ s
            → span_in job t
            ≡ span_at (task_at job.graph t) (length (samples_at job t)) (lengths_of job)
            (if s.live && nat_le u.at s.steps then Some (max (start_at job t) (s.offset + u.at)) else None)
            → BeginsFrom (least_start job t) (task_at job.graph t).joins_now (span_in job t)
        child u parent above rec s same is_span = of s.live refl
          where
            of : (b : Bool) → s.live ≡ b
                → BeginsFrom (least_start job t) (task_at job.graph t).joins_now (span_in job t)
            of false dead =
                absurd (let no : false ≡ true = sym (ap (λ (x : Span). x.live) (is_span
                ∙ ap (λ b. span_at (task_at job.graph t) (length (samples_at job t)) (lengths_of job)
                (if b && nat_le u.at s.steps then Some (max (start_at job t) (s.offset + u.at)) else None))
                dead)) ∙ live in cc)
            of true alive =
                let less : u.task < t = above.above in
                let before = rec is (omega (arith, below)) (omega (arith, there))
                (ap (λ (x : Span). x.live) same ∙ alive) in
                let at_parent : s.offset ≡ least_start job u.task =
                sym (ap (λ (x : Span). x.offset) same) ∙ before.same above.stays in
                let least_is : least_start job t ≡ s.offset + u.at =
                least_of_child job t u is there parent ∙ ap (λ n. n + u.at) (sym at_parent) in
                subst (λ least. BeginsFrom least (task_at job.graph t).joins_now (span_in job t))
                (sym least_is)
                (subst (BeginsFrom (s.offset + u.at) (task_at job.graph t).joins_now) (sym is_span)
                (gated (length (samples_at job t)) (lengths_of job) t job (s.live && nat_le u.at s.steps)
                (start_at job t) (s.offset + u.at) (task_at job.graph t).joins_now no_start
                (sym (ap (λ (x : Span). x.live) is_span) ∙ live)))

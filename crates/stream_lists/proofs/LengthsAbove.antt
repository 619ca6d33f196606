-- The length of a phaser's list, over the lengths of the lists of all phasers.
use Rattle.std.proofs.Common.{◌≡◌, ℕ, zero, suc, ◌-◌, ◌<◌, List, length, get_or, Some, None, true, refl, sym, ap, ◌∙◌, arith}
use Rattle.std.specs.Prelude.{Option}
use Rattle.std.proofs.lemmas.List.{get_or-map}
use Rattle.graph_base.specs.Graphs.{Task, task_at}
use Rattle.graph_base.specs.TaskLines.{IsGraph, IsTaskLine, IsParent, HasEnds}
use Rattle.graph_base.specs.declared.line.Kind.{Kind}
use Rattle.graph_base.specs.declared.line.Kind.TheVariants.{Source, Fir, Split, Decimate, Join, Peer, Sink}
use Rattle.stream_lists.specs.Jobs.{Job, samples_at, start_at, index_in}
use Rattle.stream_lists.specs.Spans.{nowhere, signalled_by, LooksAt, offset_of, cut_at, span_at, spans_over, spans_of, lengths_of, enough_for, values_from, greatest, length_on, end_on, end_of}
use Rattle.stream_lists.specs.declared.span.Span.{Span}
use Rattle.stream_lists.proofs.Growing.{AreSameBelow, grown-whole, map-same, map-each}
use Rattle.stream_lists.proofs.Ordered.{AreSameAt, looks-first, looked_above, parent_signals}
use Rattle.stream_lists.proofs.SpansAbove.{parent-is, same_offset, spans_are}

-- how many values the first input has
pub first_value : (task : Task) (lengths : List ℕ) (offset : ℕ) → 0 < length task.inputs
    → get_or (values_from task lengths offset) 0 0
    ≡ get_or lengths (get_or task.inputs 0 0) 0 - offset
first_value task lengths offset some =
    get_or-map (λ p. get_or lengths p 0 - offset) task.inputs 0 0 0 some

pub peer_enough : (task : Task) (samples : ℕ) (values : List ℕ) → task.kind ≡ Peer
    → enough_for task samples values ≡ get_or values 0 0
peer_enough task samples values e = rw e refl

-- what is enough is the same over lengths that are the same where the first output looks
same_enough : (task : Task) (samples offset : ℕ) (xs ys : List ℕ)
    → HasEnds task.kind (length task.inputs) (length task.outputs)
    → AreSameAt 0 task xs ys (LooksAt task.kind 0)
    → enough_for task samples (values_from task xs offset)
    ≡ enough_for task samples (values_from task ys offset)
same_enough task samples offset xs ys ends same = by task.kind refl
  where
    whole : ((k : ℕ) → LooksAt task.kind 0 k)
        → enough_for task samples (values_from task xs offset)
        ≡ enough_for task samples (values_from task ys offset)
    whole looks = ap (enough_for task samples)
        (map-each (λ p. get_or xs p 0 - offset) (λ p. get_or ys p 0 - offset) task.inputs
        (λ k lt. ap (λ n. n - offset) (same k lt (looks k))))

    by : (kind : Kind) → task.kind ≡ kind
        → enough_for task samples (values_from task xs offset)
        ≡ enough_for task samples (values_from task ys offset)
    by Source e = whole (λ k. rw e tt)
    by Fir e = whole (λ k. rw e tt)
    by Split e = whole (λ k. rw e tt)
    by Decimate e = whole (λ k. rw e tt)
    by Join e = whole (λ k. rw e tt)
    by Sink e = whole (λ k. rw e tt)
    by Peer e =
        let both : (length task.inputs ≡ 2) × (length task.outputs ≡ 1) = rw e at ends in
        let some : 0 < length task.inputs = omega (arith, both.0) in
        let looks : LooksAt task.kind 0 0 = rw e refl in
        peer_enough task samples (values_from task xs offset) e
        ∙ (first_value task xs offset some
        ∙ (ap (λ n. n - offset) (same 0 some looks)
        ∙ (sym (first_value task ys offset some)
        ∙ sym (peer_enough task samples (values_from task ys offset) e))))

same_span : (task : Task) (samples : ℕ) (offset : Option ℕ) (xs ys : List ℕ)
    → HasEnds task.kind (length task.inputs) (length task.outputs)
    → AreSameAt 0 task xs ys (LooksAt task.kind 0)
    → span_at task samples xs offset ≡ span_at task samples ys offset
same_span task samples None xs ys ends same = refl
same_span task samples (Some offset) xs ys ends same =
    ap (λ n. record { live = true; offset = offset; steps = cut_at task.until n })
    (same_enough task samples offset xs ys ends same)

-- the span of a task that signals phaser p is the same over lengths that are the same below p
same_spans : (job : Job) (p : ℕ) (xs ys : List ℕ) → IsGraph job.graph → AreSameBelow 0 p xs ys
    → (limit t j : ℕ) → t < limit → t < length job.graph.tasks
    → index_in (signalled_by (task_at job.graph t)) p ≡ Some j
    → get_or (spans_over job xs) t nowhere ≡ get_or (spans_over job ys) t nowhere
same_spans job p xs ys is same zero t j below there place = absurd (omega arith)
same_spans job p xs ys is same (suc limit) t j below there place =
    let task = task_at job.graph t in
    let line : IsTaskLine job.graph t task = is.tasks t there in
    let samples = length (samples_at job t) in
    spans_are job xs t is there
    ∙ (same_span task samples (offset_of (spans_over job xs) (start_at job t) task.parent) xs ys
    line.ends
    (λ k lt looks. same (get_or task.inputs k 0)
    (looked_above job.graph t task j k p line place lt (looks-first task.kind j k looks)))
    ∙ (ap (span_at task samples ys)
    (same_offset (spans_over job xs) (spans_over job ys) (start_at job t) task.parent
    (λ u e. (let parent : IsParent job.graph t task u = parent-is job.graph t task u line e in
    let above : u.task < t = parent.above in
    let on = parent_signals job.graph t task u p j parent place in
    same_spans job p xs ys is same limit u.task on.0 (omega arith) (omega arith) on.1)))
    ∙ sym (spans_are job ys t is there)))

-- the length of a phaser's list is the greatest end of a task on it
pub lengths_all : (job : Job) (p : ℕ) → IsGraph job.graph → p < length job.graph.phasers
    → get_or (lengths_of job) p 0 ≡ length_on job.graph (spans_of job) p
lengths_all job p is below =
    grown-whole (λ above q. length_on job.graph (spans_over job above) q)
    (length job.graph.phasers) p 0 below
    (λ xs ys same. ap greatest
    (map-same (end_of job.graph (spans_over job xs) p) (end_of job.graph (spans_over job ys) p)
    0 (length job.graph.tasks)
    (λ t less. (let there : t < length job.graph.tasks = omega arith in
    by xs ys same t there (index_in (signalled_by (task_at job.graph t)) p) refl))))
  where
    by : (xs ys : List ℕ) → AreSameBelow 0 p xs ys → (t : ℕ) → t < length job.graph.tasks
        → (place : Option ℕ) → index_in (signalled_by (task_at job.graph t)) p ≡ place
        → end_on (task_at job.graph t) (get_or (spans_over job xs) t nowhere) place
        ≡ end_on (task_at job.graph t) (get_or (spans_over job ys) t nowhere) place
    by xs ys same t there None at = refl
    by xs ys same t there (Some j) at =
        ap (λ (span : Span). end_on (task_at job.graph t) span (Some j))
        (same_spans job p xs ys is same (suc t) t j (omega arith) there at)

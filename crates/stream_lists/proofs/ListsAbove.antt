-- The list of a phaser, over the lists of the phasers above it, or of all phasers.
use Rattle.std.proofs.Common.{◌≡◌, ℕ, zero, suc, ◌<◌, List, [], length, map, get_or, take, drop, ℤ, Some, None, refl, sym, ap, ◌∙◌, arith}
use Rattle.std.specs.Prelude.{Option, if◌then◌else◌}
use Rattle.std.specs.List.{range_with_len}
use Rattle.std.proofs.lemmas.List.FromFn.{get_or-map-range_with_len}
use Rattle.graph_base.specs.Graphs.{Task, task_at, phaser_at}
use Rattle.graph_base.specs.TaskLines.{IsGraph, IsTaskLine, HasEnds}
use Rattle.graph_base.specs.declared.line.Kind.{Kind}
use Rattle.graph_base.specs.declared.line.Kind.TheVariants.{Source, Fir, Split, Decimate, Join, Peer, Sink}
use Rattle.stream_lists.specs.Jobs.{Job, samples_at, index_in}
use Rattle.stream_lists.specs.Spans.{nowhere, signalled_by, LooksAt, takes_from, spans_of, Schedule, schedule_of}
use Rattle.stream_lists.specs.Lists.{contribution_at, contribution_by, contributions_on, output_list, output_on, taken_by, taken_from, phase_in, value_by, number, list_over, list_of_phaser, numbers_above, numbers_of}
use Rattle.stream_lists.specs.declared.span.Span.{Span}
use Rattle.stream_lists.proofs.Growing.{AreSameBelow, grown-same, grown-whole, map-same, filter_map-same}
use Rattle.stream_lists.proofs.Ordered.{AreSameAt, looked_above}

-- what a task takes is the same of each of these inputs
abbrev pub TakesSame : Task → Span → List (List ℤ) → List (List ℤ) → (ℕ → Type 0) → Type 0
TakesSame task span xs ys At = (k : ℕ) → k < length task.inputs → At k
    → taken_from xs task span k ≡ taken_from ys task span k

same_taken : (task : Task) (span : Span) (xs ys : List (List ℤ))
    → TakesSame task span xs ys (λ k. Unit {0}) → taken_by xs task span ≡ taken_by ys task span
same_taken task span xs ys same =
    map-same (taken_from xs task span) (taken_from ys task span) 0 (length task.inputs)
    (λ k less. same k (omega arith) tt)

-- what is taken from the first input
pub first_taken : (lists : List (List ℤ)) (task : Task) (span : Span) → 0 < length task.inputs
    → get_or (taken_by lists task span) 0 [] ≡ taken_from lists task span 0
first_taken lists task span some =
    get_or-map-range_with_len (taken_from lists task span) 0 (length task.inputs) 0 0 [] some refl

pub peer_first : (samples : List ℤ) (taken : List (List ℤ)) (task : Task) (steps : ℕ)
    → task.kind ≡ Peer → output_list samples taken task steps 0 ≡ get_or taken 0 []
peer_first samples taken task steps e = rw e refl

-- an output is the same where what is taken is, from the inputs at which it looks
pub output_by_taken : (samples : List ℤ) (task : Task) (span : Span) (xs ys : List (List ℤ)) (j : ℕ)
    → HasEnds task.kind (length task.inputs) (length task.outputs)
    → TakesSame task span xs ys (LooksAt task.kind j)
    → output_list samples (taken_by xs task span) task span.steps j
    ≡ output_list samples (taken_by ys task span) task span.steps j
output_by_taken samples task span xs ys j ends same = by task.kind j refl refl
  where
    whole : ((k : ℕ) → LooksAt task.kind j k)
        → output_list samples (taken_by xs task span) task span.steps j
        ≡ output_list samples (taken_by ys task span) task span.steps j
    whole looks = ap (λ taken. output_list samples taken task span.steps j)
        (same_taken task span xs ys (λ k lt u. same k lt (looks k)))

    first : task.kind ≡ Peer → j ≡ 0
        → output_list samples (taken_by xs task span) task span.steps j
        ≡ output_list samples (taken_by ys task span) task span.steps j
    first e none =
        let both : (length task.inputs ≡ 2) × (length task.outputs ≡ 1) = rw e at ends in
        let some : 0 < length task.inputs = omega (arith, both.0) in
        let looks : LooksAt task.kind j 0 = rw none (rw e refl) in
        ap (λ j. output_list samples (taken_by xs task span) task span.steps j) none
        ∙ (peer_first samples (taken_by xs task span) task span.steps e
        ∙ (first_taken xs task span some
        ∙ (same 0 some looks
        ∙ (sym (first_taken ys task span some)
        ∙ (sym (peer_first samples (taken_by ys task span) task span.steps e)
        ∙ ap (λ j. output_list samples (taken_by ys task span) task span.steps j) (sym none))))))

    by : (kind : Kind) (i : ℕ) → task.kind ≡ kind → j ≡ i
        → output_list samples (taken_by xs task span) task span.steps j
        ≡ output_list samples (taken_by ys task span) task span.steps j
    by Source i e at = whole (λ k. rw e tt)
    by Fir i e at = whole (λ k. rw e tt)
    by Split i e at = whole (λ k. rw e tt)
    by Decimate i e at = whole (λ k. rw e tt)
    by Join i e at = whole (λ k. rw e tt)
    by Sink i e at = whole (λ k. rw e tt)
    by Peer zero e at = first e at
    by Peer (suc i) e at = whole (λ k. rw (e, at) tt)

-- and so over lists that are the same where it looks
pub same_output : (samples : List ℤ) (task : Task) (span : Span) (xs ys : List (List ℤ)) (j : ℕ)
    → HasEnds task.kind (length task.inputs) (length task.outputs)
    → AreSameAt [] task xs ys (LooksAt task.kind j)
    → output_list samples (taken_by xs task span) task span.steps j
    ≡ output_list samples (taken_by ys task span) task span.steps j
same_output samples task span xs ys j ends same =
    output_by_taken samples task span xs ys j ends
    (λ k lt looks. ap (λ l. take (takes_from task span.steps k) (drop span.offset l))
    (same k lt looks))

-- the members of phaser p are the same over lists that are the same below p
pub same_members : (job : Job) (schedule : Schedule) (p : ℕ) (xs ys : List (List ℤ))
    → IsGraph job.graph → AreSameBelow [] p xs ys
    → contributions_on job schedule xs p ≡ contributions_on job schedule ys p
same_members job schedule p xs ys is same =
    filter_map-same (contribution_at job schedule xs p) (contribution_at job schedule ys p) 0
    (length job.graph.tasks)
    (λ t less. (let there : t < length job.graph.tasks = omega arith in
    by t (is.tasks t there) (index_in (signalled_by (task_at job.graph t)) p) refl))
  where
    by : (t : ℕ) → IsTaskLine job.graph t (task_at job.graph t) → (place : Option ℕ)
        → index_in (signalled_by (task_at job.graph t)) p ≡ place
        → contribution_by job schedule xs t place ≡ contribution_by job schedule ys t place
    by t line None at = refl
    by t line (Some j) at =
        let task = task_at job.graph t in
        let span = get_or schedule.spans t nowhere in
        ap (λ (list : List ℤ). if span.live then Some (span.offset, list) else None)
        (same_output (samples_at job t) task span xs ys j line.ends
        (λ k lt looks. same (get_or task.inputs k 0)
        (looked_above job.graph t task j k p line at lt looks)))

-- its phases too
pub same_phases : (job : Job) (schedule : Schedule) (p : ℕ) (xs ys : List (List ℤ))
    → IsGraph job.graph → AreSameBelow [] p xs ys
    → list_over job schedule xs p ≡ list_over job schedule ys p
same_phases job schedule p xs ys is same =
    ap (λ members. map (phase_in (value_by (phaser_at job.graph p).op) job p members)
    (range_with_len 0 (get_or schedule.lengths p 0)))
    (same_members job schedule p xs ys is same)

-- the numbers of each phaser's list, over those of the phasers above it
abbrev numbers_over : Job → List (List ℤ) → ℕ → List ℤ
numbers_over job above p = map number (list_over job (schedule_of job) above p)

pub lists_above : (job : Job) (p : ℕ) → IsGraph job.graph → p < length job.graph.phasers
    → list_of_phaser job p ≡ list_over job (schedule_of job) (numbers_of job) p
lists_above job p is below =
    same_phases job (schedule_of job) p (numbers_above job p) (numbers_of job) is
    (grown-same (numbers_over job) [] p (length job.graph.phasers) (omega arith))

pub numbers_all : (job : Job) (p : ℕ) → IsGraph job.graph → p < length job.graph.phasers
    → get_or (numbers_of job) p []
    ≡ map number (list_over job (schedule_of job) (numbers_of job) p)
numbers_all job p is below =
    grown-whole (numbers_over job) (length job.graph.phasers) p [] below
    (λ xs ys same. ap (map number)
    (same_phases job (schedule_of job) p xs ys is same))

-- who puts what on a phaser too
pub members_above : (job : Job) (p : ℕ) → IsGraph job.graph → p < length job.graph.phasers
    → contributions_on job (schedule_of job) (numbers_above job p) p
    ≡ contributions_on job (schedule_of job) (numbers_of job) p
members_above job p is below =
    same_members job (schedule_of job) p (numbers_above job p) (numbers_of job) is
    (grown-same (numbers_over job) [] p (length job.graph.phasers) (omega arith))

pub outputs_above : (job : Job) (t j p : ℕ) → IsGraph job.graph → t < length job.graph.tasks
    → p < length job.graph.phasers → index_in (signalled_by (task_at job.graph t)) p ≡ Some j
    → output_on job (schedule_of job) (numbers_above job p) t j
    ≡ output_on job (schedule_of job) (numbers_of job) t j
outputs_above job t j p is there below place =
    let task = task_at job.graph t in
    let line = is.tasks t there in
    let same = grown-same (numbers_over job) [] p (length job.graph.phasers) (omega arith) in
    same_output (samples_at job t) task (get_or (spans_of job) t nowhere) (numbers_above job p)
    (numbers_of job) j line.ends
    (λ k lt looks. same (get_or task.inputs k 0)
    (looked_above job.graph t task j k p line place lt looks))

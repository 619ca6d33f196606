-- How many values a task takes and puts out, over the lists of all phasers.
use Rattle.std.proofs.Common.{◌≡◌, ℕ, ◌+◌, ◌-◌, ◌<◌, ◌≤◌, Bool, true, false, List, [], length, get_or, take, drop, ℤ, Some, None, refl, sym, ap, subst, ◌∙◌, arith}
use Rattle.std.specs.Prelude.{Option, nat_lt, if◌then◌else◌}
use Rattle.std.proofs.lemmas.List.{length-map, length-take-le, length-drop}
use Rattle.std.proofs.lemmas.List.FromFn.{length-map-range_with_len}
use Rattle.stream_filters.proofs.Outputs.{outputs-length}
use Rattle.graph_base.specs.Graphs.{Task, task_at}
use Rattle.graph_base.specs.TaskLines.{IsGraph, IsTaskLine, HasEnds}
use Rattle.graph_base.specs.declared.line.Kind.{Kind}
use Rattle.graph_base.specs.declared.line.Kind.TheVariants.{Source, Fir, Split, Decimate, Join, Peer, Sink}
use Rattle.stream_lists.specs.Jobs.{Job, samples_at, start_at, index_in}
use Rattle.stream_lists.specs.Spans.{signalled_by, LooksAt, puts_on, takes_from, turns_below, offset_of, span_at, spans_of, lengths_of, span_in, enough_for, values_from, greatest, end_on, end_of, schedule_of}
use Rattle.stream_lists.specs.Lists.{every, turn_at, mixed, mixed_at, taken_by, output_list, output_on, contribution_at, contribution_by, list_over, number, numbers_of, end_of_contribution, ends_on}
use Rattle.stream_lists.proofs.Growing.{map-same}
use Rattle.stream_lists.proofs.Ordered.{place-at}
use Rattle.stream_lists.proofs.SpansAbove.{spans_all}
use Rattle.stream_lists.proofs.ListsAbove.{first_taken, numbers_all}
use Rattle.stream_lists.proofs.LengthsAbove.{first_value, lengths_all}
use Rattle.stream_lists.proofs.Basics.{cut_below}

-- ---- steps

-- the steps of a task have enough
pub steps_within : (job : Job) (t : ℕ) → IsGraph job.graph → t < length job.graph.tasks
    → (span_in job t).steps ≤ enough_for (task_at job.graph t) (length (samples_at job t))
    (values_from (task_at job.graph t) (lengths_of job) (span_in job t).offset)
steps_within job t is there =
    let task = task_at job.graph t in
    let samples = length (samples_at job t) in
    let above = offset_of (spans_of job) (start_at job t) task.parent in
    rw (spans_all job t is there) (by task samples above)
  where
    by : (task : Task) (samples : ℕ) (o : Option ℕ)
        → (span_at task samples (lengths_of job) o).steps ≤ enough_for task samples
        (values_from task (lengths_of job) (span_at task samples (lengths_of job) o).offset)
    by task samples None = omega arith
    by task samples (Some offset) =
        cut_below task.until (enough_for task samples (values_from task (lengths_of job) offset))

-- ---- what is taken

-- the kinds that take a value a step from their first input
abbrev pub takes_one : Kind → Bool
takes_one Source = false
takes_one Join = false
takes_one kind = true

one_enough : (task : Task) (samples : ℕ) (values : List ℕ) → takes_one task.kind ≡ true
    → enough_for task samples values ≡ get_or values 0 0
one_enough task samples values one = by task.kind refl
  where
    by : (kind : Kind) → task.kind ≡ kind → enough_for task samples values ≡ get_or values 0 0
    by Source e = absurd (let b : false ≡ true = sym (ap takes_one e) ∙ one in cc)
    by Join e = absurd (let b : false ≡ true = sym (ap takes_one e) ∙ one in cc)
    by Fir e = rw e refl
    by Split e = rw e refl
    by Decimate e = rw e refl
    by Peer e = rw e refl
    by Sink e = rw e refl

one_each : (task : Task) (steps k : ℕ) → takes_one task.kind ≡ true
    → takes_from task steps k ≡ steps
one_each task steps k one = by task.kind refl
  where
    by : (kind : Kind) → task.kind ≡ kind → takes_from task steps k ≡ steps
    by Join e = absurd (let b : false ≡ true = sym (ap takes_one e) ∙ one in cc)
    by Source e = rw e refl
    by Fir e = rw e refl
    by Split e = rw e refl
    by Decimate e = rw e refl
    by Peer e = rw e refl
    by Sink e = rw e refl

has_input : (kind : Kind) (inputs outputs : ℕ) → HasEnds kind inputs outputs
    → takes_one kind ≡ true → 0 < inputs
has_input Source inputs outputs ends one = absurd (cc)
has_input Join inputs outputs ends one = absurd (cc)
has_input Fir inputs outputs ends one = omega (arith, ends.0)
has_input Split inputs outputs ends one = omega (arith, ends.0)
has_input Decimate inputs outputs ends one = omega (arith, ends.0)
has_input Peer inputs outputs ends one = omega (arith, ends.0)
has_input Sink inputs outputs ends one = omega (arith, ends.0)

-- the numbers of a phaser's list are as many as its phases
pub length-numbers : (job : Job) (p : ℕ) → IsGraph job.graph → p < length job.graph.phasers
    → length (get_or (numbers_of job) p []) ≡ get_or (lengths_of job) p 0
length-numbers job p is below =
    ap length (numbers_all job p is below)
    ∙ (length-map (list_over job (schedule_of job) (numbers_of job) p) number
    ∙ length-map-range_with_len _ 0 (get_or (lengths_of job) p 0))

-- such a task takes a value of its first input in each step
pub length-first : (job : Job) (t : ℕ) → IsGraph job.graph → t < length job.graph.tasks
    → takes_one (task_at job.graph t).kind ≡ true
    → length (get_or (taken_by (numbers_of job) (task_at job.graph t) (span_in job t)) 0 [])
    ≡ (span_in job t).steps
length-first job t is there one =
    let task = task_at job.graph t in
    let span = span_in job t in
    let line : IsTaskLine job.graph t task = is.tasks t there in
    let some : 0 < length task.inputs = has_input task.kind _ _ line.ends one in
    let x = get_or task.inputs 0 0 in
    let list = get_or (numbers_of job) x [] in
    let below : x < length job.graph.phasers = line.inputs 0 0 some in
    let long : length list ≡ get_or (lengths_of job) x 0 = length-numbers job x is below in
    let rest : length (drop span.offset list) ≡ length list - span.offset =
    length-drop span.offset list in
    let samples = length (samples_at job t) in
    let values = values_from task (lengths_of job) span.offset in
    let within : span.steps ≤ enough_for task samples values = steps_within job t is there in
    let enough : enough_for task samples values ≡ get_or (lengths_of job) x 0 - span.offset =
    one_enough task samples values one ∙ first_value task (lengths_of job) span.offset some in
    let fits : span.steps ≤ length (drop span.offset list) = omega arith in
    ap length (first_taken (numbers_of job) task span some)
    ∙ (ap (λ n. length (take n (drop span.offset list))) (one_each task span.steps 0 one)
    ∙ length-take-le span.steps (drop span.offset list) fits)

-- ---- what is put out

-- from so many samples, or values of the first input, as steps
length-output : (samples : List ℤ) (taken : List (List ℤ)) (task : Task) (steps j : ℕ)
    → HasEnds task.kind (length task.inputs) (length task.outputs)
    → j < length (signalled_by task)
    → (task.kind ≡ Source → steps ≤ length samples)
    → (takes_one task.kind ≡ true → length (get_or taken 0 []) ≡ steps)
    → length (output_list samples taken task steps j) ≡ puts_on task steps j
length-output samples taken task steps j ends lt enough one = by task.kind refl
  where
    peer : (b : Bool) → length (get_or taken 0 []) ≡ steps
        → length (if b then mixed task.mul (get_or taken 0 []) (get_or taken 1 [])
        else get_or taken 0 []) ≡ steps
    peer false all = all
    peer true all =
        length-map-range_with_len (mixed_at task.mul (get_or taken 0 []) (get_or taken 1 [])) 0
        (length (get_or taken 0 [])) ∙ all

    turns : (m i : ℕ) → length (get_or taken 0 []) ≡ steps
        → length (every m i (get_or taken 0 [])) ≡ turns_below m i steps
    turns m i all =
        length-map-range_with_len _ 0 (turns_below m i (length (get_or taken 0 [])))
        ∙ ap (turns_below m i) all

    by : (kind : Kind) → task.kind ≡ kind
        → length (output_list samples taken task steps j) ≡ puts_on task steps j
    by Source e = rw e (length-take-le steps samples (enough e))
    by Fir e =
        rw e (outputs-length task.taps task.form (get_or taken 0 []) ∙ one (ap takes_one e))
    by Split e = rw e (turns (length task.outputs) j (one (ap takes_one e)))
    by Decimate e = rw e (turns task.every 0 (one (ap takes_one e)))
    by Join e = rw e (length-map-range_with_len (turn_at taken) 0 steps)
    by Peer e = rw e (peer (nat_lt 0 j) (one (ap takes_one e)))
    by Sink e =
        let both : (length task.inputs ≡ 1) × (length task.outputs ≡ 0) = rw e at ends in
        let few : j < length task.outputs = rw e at lt in
        absurd (omega (arith, both.1))

-- the first output looks at the first input
looks_first : (kind : Kind) → LooksAt kind 0 0
looks_first Source = tt
looks_first Fir = tt
looks_first Split = tt
looks_first Decimate = tt
looks_first Join = tt
looks_first Peer = refl
looks_first Sink = tt

-- so many steps, of which what they look at was taken
pub steps_long : (samples : List ℤ) (taken : List (List ℤ)) (task : Task) (steps j : ℕ)
    → HasEnds task.kind (length task.inputs) (length task.outputs)
    → j < length (signalled_by task)
    → (task.kind ≡ Source → steps ≤ length samples)
    → ((k : ℕ) → k < length task.inputs → LooksAt task.kind 0 k
    → length (get_or taken k []) ≡ takes_from task steps k)
    → length (output_list samples taken task steps j) ≡ puts_on task steps j
steps_long samples taken task steps j ends lt enough each =
    length-output samples taken task steps j ends lt enough
    (λ one. each 0 (has_input task.kind _ _ ends one) (looks_first task.kind)
    ∙ one_each task steps 0 one)

pub source_enough : (task : Task) (samples : ℕ) (values : List ℕ) → task.kind ≡ Source
    → enough_for task samples values ≡ samples
source_enough task samples values e = rw e refl

-- a task puts as many values on each output as its steps say
pub outputs_long : (job : Job) (t j : ℕ) → IsGraph job.graph → t < length job.graph.tasks
    → j < length (signalled_by (task_at job.graph t))
    → length (output_on job (schedule_of job) (numbers_of job) t j)
    ≡ puts_on (task_at job.graph t) (span_in job t).steps j
outputs_long job t j is there lt =
    let task = task_at job.graph t in
    let span = span_in job t in
    let values = values_from task (lengths_of job) span.offset in
    length-output (samples_at job t) (taken_by (numbers_of job) task span) task span.steps j
    (is.tasks t there).ends lt
    (λ e. subst (λ n. span.steps ≤ n) (source_enough task (length (samples_at job t)) values e)
    (steps_within job t is there))
    (λ one. length-first job t is there one)

-- ---- where the lists end

-- each task ends on a phaser where its values do
same_end : (live : Bool) (offset n : ℕ) (list : List ℤ) → length list ≡ n
    → (if live then offset + n else 0)
    ≡ end_of_contribution (if live then Some (offset, list) else None)
same_end true offset n list e = ap (λ n. offset + n) (sym e)
same_end false offset n list e = refl

pub lengths_end : (job : Job) (p : ℕ) → IsGraph job.graph → p < length job.graph.phasers
    → get_or (lengths_of job) p 0 ≡ greatest (ends_on job p)
lengths_end job p is below =
    lengths_all job p is below
    ∙ ap greatest (map-same (end_of job.graph (spans_of job) p)
    (λ t. end_of_contribution (contribution_at job (schedule_of job) (numbers_of job) p t))
    0 (length job.graph.tasks)
    (λ t less. (let there : t < length job.graph.tasks = omega arith in
    by t there (index_in (signalled_by (task_at job.graph t)) p) refl)))
  where
    by : (t : ℕ) → t < length job.graph.tasks → (place : Option ℕ)
        → index_in (signalled_by (task_at job.graph t)) p ≡ place
        → end_on (task_at job.graph t) (span_in job t) place
        ≡ end_of_contribution (contribution_by job (schedule_of job) (numbers_of job) t place)
    by t there None at = refl
    by t there (Some j) at =
        let span = span_in job t in
        same_end span.live span.offset (puts_on (task_at job.graph t) span.steps j)
        (output_on job (schedule_of job) (numbers_of job) t j)
        (outputs_long job t j is there (place-at (signalled_by (task_at job.graph t)) p j at).0)

-- Places of a graph: where a value is out of range, and the sinks.
use Rattle.std.proofs.Common.{◌≡◌, ◌<◌, ◌≤◌, ◌⊎◌, inl, inr, ◌++◌, ◌∷◌, [], ℕ, ℤ, List, length, map, get_or, Option, Some, None, option_map, suc, sym, ◌∙◌, ap, subst, arith, zero-add}
use Rattle.std.specs.List.{All, range_with_len}
use Rattle.std.proofs.lemmas.Bool.{cases_lt}
use Rattle.std.proofs.lemmas.List.{get_or-map, get_or_push, get_or_append_left, length_push, length-map}
use Rattle.std.proofs.lemmas.List.Elements.{All-filter, All-map}
use Rattle.std.proofs.lemmas.List.FromFn.{get_or-map-range_with_len, get_or-range_with_len, length-map-range_with_len, length-range_with_len}
use Rattle.std.proofs.lemmas.Option.{none-some}
use Rattle.graph_base.specs.Graphs.{IsPlace}
use Rattle.graph_base.specs.declared.place.Place.{Place}
use Rattle.graph_base.specs.declared.place.Place.TheVariants as place
use Rattle.stream_lists.specs.Jobs.{Job}
use Rattle.stream_eval.specs.Results.{sink_values}
use Rattle.stream_lists.specs.Lists.{is_sink_at, lines_of, numbers_above, numbers_of, sink_over, sinks_of}
use Rattle.stream_lists.specs.Ranges.{Where, fault_on, first_some, first_too_big, output_fault_of, output_faults, phase_fault_of}
use Rattle.stream_lists.specs.Spans.{Schedule, schedule_of}
use Rattle.stream_eval.specs.declared.whole.Lines.{Lines}

-- ---- the place of a value that is out of range

-- the first that is there is one of them
first_some-found : {A : Type 0} (os : List (Option A)) (a : A) → first_some os ≡ Some a
    → (k : ℕ) × (k < length os) × (get_or os k None ≡ Some a)
first_some-found [] a e = absurd (none-some a e)
first_some-found (None ∷ os) a e =
    let found = first_some-found os a e in (suc found.0, omega (arith, found.1), found.2)
first_some-found (Some b ∷ os) a e = (0, omega arith, e)

abbrev place_or : Place → Option Where → Place
place_or at None = at
place_or at (Some w) = w.0

-- the place is the one that was put to the number
place-option_map : (at : Place) (o : Option ℕ) (w : Where)
    → option_map (λ n. (at, n)) o ≡ Some w → at ≡ w.0
place-option_map at None w e = absurd (none-some w e)
place-option_map at (Some n) w e = ap (place_or at) e

-- what a task makes on a phaser is out of range at that task
place-output : (job : Job) (schedule : Schedule) (above : List (List ℤ)) (p t : ℕ) (w : Where)
    → t < length job.graph.tasks → output_fault_of job schedule above p t ≡ Some w
    → IsPlace job.graph w.0
place-output job schedule above p t w within e =
    let At : Place → Type 0 = λ at. IsPlace job.graph at in
    subst At (place-option_map (place.Task t) _ w e) within

-- a phase of a phaser is out of range at that phaser
place-phase : (job : Job) (schedule : Schedule) (above : List (List ℤ)) (p : ℕ)
    (w : Where) → p < length job.graph.phasers → phase_fault_of job schedule above p ≡ Some w
    → IsPlace job.graph w.0
place-phase job schedule above p w within e =
    let At : Place → Type 0 = λ at. IsPlace job.graph at in
    subst At (place-option_map (place.Phaser p) _ w e) within

-- which of them it is, by its number
place-found : (job : Job) (schedule : Schedule) (above : List (List ℤ)) (p : ℕ)
    (w : Where) (k : ℕ) → p < length job.graph.phasers
    → k < length (output_faults job schedule above p ++ phase_fault_of job schedule above p ∷ [])
    → get_or (output_faults job schedule above p ++ phase_fault_of job schedule above p ∷ []) k None
    ≡ Some w
    → (k < length job.graph.tasks) ⊎ (length job.graph.tasks ≤ k) → IsPlace job.graph w.0
place-found job schedule above p w k within below e (inl lt) =
    let n = length job.graph.tasks in
    let first = output_faults job schedule above p in
    let count : length first ≡ n =
    length-map-range_with_len (output_fault_of job schedule above p) 0 n in
    let left = get_or_append_left first (phase_fault_of job schedule above p ∷ []) None k
    (omega (arith, lt, count)) in
    let here = get_or-map-range_with_len (output_fault_of job schedule above p) 0 n k k None lt
    (zero-add k) in
    place-output job schedule above p k w lt (sym here ∙ (sym left ∙ e))
place-found job schedule above p w k within below e (inr ge) =
    let n = length job.graph.tasks in
    let first = output_faults job schedule above p in
    let count : length first ≡ n =
    length-map-range_with_len (output_fault_of job schedule above p) 0 n in
    let at : length first ≡ k =
    omega (arith, ge, below, count, length_push first (phase_fault_of job schedule above p)) in
    place-phase job schedule above p w within
    (sym (get_or_push first (phase_fault_of job schedule above p) None k at) ∙ e)

-- the first value out of range is at a phaser or a task of the graph
pub place-first_too_big : (job : Job) (w : Where) → first_too_big job ≡ Some w
    → IsPlace job.graph w.0
place-first_too_big job w e =
    let n = length job.graph.phasers in
    let found = first_some-found (map (fault_on job) (range_with_len 0 n)) w e in
    let p = found.0 in
    let count = length-map-range_with_len (fault_on job) 0 n in
    let within : p < n = omega (arith, found.1, count) in
    let here = get_or-map-range_with_len (fault_on job) 0 n p p None within (zero-add p) in
    let on = first_some-found (output_faults job (schedule_of job) (numbers_above job p) p
    ++ phase_fault_of job (schedule_of job) (numbers_above job p) p ∷ []) w
    (sym here ∙ found.2) in
    place-found job (schedule_of job) (numbers_above job p) p w on.0 within on.1 on.2
    (cases_lt on.0 (length job.graph.tasks))

-- ---- the sinks

-- the numbers below n are
below-range : (n : ℕ) → All (λ t. t < n) (range_with_len 0 n)
below-range n k d lt =
    let count = length-range_with_len 0 n in
    let below : k < n = omega (arith, lt, count) in
    let At : ℕ → Type 0 = λ t. t < n in
    subst At (sym (get_or-range_with_len 0 n k d below ∙ zero-add k)) below

-- each sink with lines is a task of the graph
pub sinks-within : (job : Job) (lines : List Lines) → map sink_values lines ≡ lines_of job
    → All (λ sink. sink.task < length job.graph.tasks) lines
sinks-within job lines e k d lt =
    let n = length job.graph.tasks in
    let Below : ℕ × List ℤ → Type 0 = λ line. line.0 < n in
    let all : All Below (lines_of job) =
    All-map Below (sink_over job (schedule_of job) (numbers_of job)) (sinks_of job)
    (All-filter (is_sink_at job) (λ t. t < n) (range_with_len 0 n) (below-range n)) in
    let told_all : All Below (map sink_values lines) = subst (All Below) (sym e) all in
    let same : get_or (map sink_values lines) k (sink_values d) ≡ sink_values (get_or lines k d) =
    get_or-map sink_values lines k d (sink_values d) lt in
    subst Below same (told_all k (sink_values d) (omega (arith, lt, length-map lines sink_values)))

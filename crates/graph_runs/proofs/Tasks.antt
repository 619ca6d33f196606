-- A registered task whose inputs compose their lists stands in its span, and puts out its lists.
use Rattle.std.proofs.Common.{◌≡◌, ℕ, zero, suc, ◌+◌, ◌-◌, ◌<◌, ◌≤◌, Bool, true, false, ◌&&◌, cond, leb, List, [], ◌∷◌, Option, Some, None, ℤ, length, map, get_or, take, drop, refl, sym, ap, subst, ◌∙◌, arith}
use mathlib.Core.List.{IsPrefix}
use Rattle.std.proofs.lemmas.List.{length-map, length-drop, get_or-map}
use Rattle.std.proofs.lemmas.List.FromFn.{length-map-range_with_len, get_or-map-range_with_len}
use Rattle.std.proofs.lemmas.Bool.{le-leb}
use Rattle.std.proofs.lemmas.Nat.{mod_below}
use Rattle.phase_accum.specs.declared.outcome.Outcome.{Outcome}
use Rattle.phase_accum.specs.declared.outcome.Outcome.TheVariants.{Empty}
use Rattle.phase_history.specs.Histories.{done_of, phases_waited}
use Rattle.phase_history.specs.Phases.{value_of_phase, stream_of}
use Rattle.phase_history.specs.Laws.{HasReceivedFrom}
use Rattle.phase_history.proofs.Left.{received_law}
use Rattle.phase_history.proofs.Streams.{prefix_of_values}
use Rattle.phase_history.proofs.Received.{part_of_longer}
use Rattle.graph_base.specs.declared.line.Kind.{Kind}
use Rattle.graph_base.specs.declared.line.Kind.TheVariants.{Source, Fir, Split, Decimate, Join, Peer, Sink}
use Rattle.graph_base.specs.declared.line.Parent.{Parent}
use Rattle.graph_base.specs.Graphs.{Task, task_at}
use Rattle.graph_base.specs.TaskLines.{IsGraph, IsTaskLine, HasEnds}
use Rattle.stream_lists.specs.declared.span.Span.{Span}
use Rattle.stream_lists.specs.Jobs.{Job, samples_at}
use Rattle.stream_lists.specs.Spans.{spans_of, lengths_of, span_at, span_in, offset_of, cut_at, enough_for, values_from, takes_from, signalled_by, puts_on, LooksAt, schedule_of}
use Rattle.stream_lists.specs.Lists.{contributions_on, number, numbers_of, list_over, phase_in, output_on, taken_by, taken_from}
use Rattle.stream_lists.proofs.ListsAbove.{numbers_all}
use Rattle.stream_lists.proofs.ListLengths.{length-numbers, outputs_long, source_enough}
use Rattle.graph_runs.specs.Moments.{Moment, BeginsBy, input_at, taken_now, made_now, limits_at, value_at, PhaserRan, TaskRan, MayStop, at_until, no_sample, no_input, OnInput, TakenOn, Joined, HasExchanged, first_input}
use Rattle.graph_runs.specs.Settled.{Stands, PutsOut}
use Rattle.graph_runs.proofs.Composed.{Composes, HasRead}
use Rattle.graph_runs.proofs.Entries.{prefix_whole, take_prefix, take_full}
use Rattle.graph_runs.proofs.StepsLemmas.{within_cut, cut_below, cut_until, has_inputs, enough-above, enough-below, takes-mono, taken_count, taken_most}
use Rattle.graph_runs.proofs.OutputLists.{outputs_begin, length_made}
use Rattle.std.specs.Prelude.{slice_range, max, if◌then◌else◌}
use native.Mathlib.Nat.{zero-max}

-- ---- where it stands

-- the later of a start and a boundary
begins_at : (now : Bool) (start offset boundary : ℕ) → start ≡ (if now then offset else 0)
    → BeginsBy now offset boundary → max start boundary ≡ offset
begins_at false start offset boundary first at =
    let first : start ≡ 0 = first in let at : offset ≡ boundary = at in
    ap (λ n. max n boundary) first ∙ zero-max boundary ∙ sym at
begins_at true start offset boundary first at =
    let first : start ≡ offset = first in let at : boundary ≤ offset = at in
    ap (λ n. max n boundary) first ∙ (let most : max offset boundary ≡ offset = omega arith in most)

-- a registered task's span begins at its offset
pub registered_span : (job : Job) (m : Moment) (t : ℕ) (samples : ℕ) (task : Task) (start : ℕ)
    (now : Bool) (parent : Option Parent)
    → span_in job t ≡ span_at task samples (lengths_of job) (offset_of (spans_of job) start parent)
    → start ≡ (if now then m.offset t else 0) → Joined m t now parent
    → ((u : Parent) → parent ≡ Some u → Stands job m u.task)
    → span_in job t ≡ span_at task samples (lengths_of job) (Some (m.offset t))
registered_span job m t samples task start now None is first joined stands =
    is ∙ ap (λ n. span_at task samples (lengths_of job) (Some n)) (sym joined)
registered_span job m t samples task start now (Some u) is first joined stands =
    let s = stands u refl in
    let span = span_in job u.task in
    let begun : m.begun u.task ≤ span.steps = s.within in
    let low : u.at ≤ m.begun u.task = joined.1 in
    let test : leb u.at span.steps ≡ true = le-leb u.at span.steps (omega arith) in
    let both : (span.live && leb u.at span.steps) ≡ true =
    ap (λ b. b && leb u.at span.steps) s.live ∙ test in
    let at : offset_of (spans_of job) start (Some u) ≡ Some (m.offset t) =
    ap (λ b. cond b (Some (max start (span.offset + u.at))) None) both
    ∙ ap (λ n. Some n) (ap (λ n. max start (n + u.at)) s.offset
    ∙ begins_at now start (m.offset t) (m.offset u.task + u.at) first joined.0) in
    is ∙ ap (λ o. span_at task samples (lengths_of job) o) at

-- ---- what it has taken

map_number-take : (n : ℕ) (xs : List Outcome) → map number (take n xs) ≡ take n (map number xs)
map_number-take zero xs = refl
map_number-take (suc n) [] = refl
map_number-take (suc n) (x ∷ xs) = ap (λ l. number x ∷ l) (map_number-take n xs)

map_number-drop : (n : ℕ) (xs : List Outcome) → map number (drop n xs) ≡ drop n (map number xs)
map_number-drop zero xs = refl
map_number-drop (suc n) [] = refl
map_number-drop (suc n) (x ∷ xs) = map_number-drop n xs

-- the stream of a phaser that composes its list begins that list
pub stream_begins : (job : Job) (m : Moment) (p : ℕ) → Composes job m p
    → IsPrefix (stream_of (value_at job p) (m.history p))
    (list_over job (schedule_of job) (numbers_of job) p)
stream_begins job m p c =
    prefix_of_values (value_of_phase (value_at job p) (m.history p))
    (phase_in (value_at job p) job p (contributions_on job (schedule_of job) (numbers_of job) p))
    (done_of (m.history p)) (get_or (lengths_of job) p 0) Empty c.within
    (λ n below. sym (c.values n below))

slice_is : (xs : List Outcome) (a n : ℕ)
    → slice_range xs a (a + n) ≡ take n (drop a xs)
slice_is xs a n = let same : a + n - a ≡ n = omega arith in ap (λ k. take k (drop a xs)) same

has_read : (job : Job) (m : Moment) (t k n : ℕ) → IsGraph job.graph
    → input_at (task_at job.graph t) k < length job.graph.phasers
    → PhaserRan job m (input_at (task_at job.graph t) k)
    → Composes job m (input_at (task_at job.graph t) k)
    → OnInput job m t k (input_at (task_at job.graph t) k) n → HasRead job m t k
has_read job m t k n is px ran c on =
    let x = input_at (task_at job.graph t) k in
    let value = value_at job x in
    let h = m.history x in
    let got : HasReceivedFrom value h n on.start =
    received_law value (limits_at job x) h n on.start ran.legal on.start_is on.waits in
    let w = on.start.wait_phase in
    let k_waited = phases_waited h n in
    let list = list_over job (schedule_of job) (numbers_of job) x in
    let complete : w + k_waited ≤ done_of h = got.complete in
    let long : length (stream_of value h) ≡ done_of h =
    length-map-range_with_len (value_of_phase value h) 0 (done_of h) in
    let in_list : take k_waited (drop w list) ≡ take k_waited (drop w (stream_of value h)) =
    part_of_longer (stream_of value h) list w k_waited (stream_begins job m x c) (omega arith) in
    let at : w ≡ m.offset t = on.at in
    let lists : get_or (numbers_of job) x [] ≡ map number list = numbers_all job x is px in
    let taken_is : m.taken t k ≡ take k_waited (drop w (get_or (numbers_of job) x [])) =
    on.taken ∙ ap (λ l. map number l)
    (got.received ∙ slice_is (stream_of value h) w k_waited ∙ sym in_list)
    ∙ map_number-take k_waited (drop w list)
    ∙ ap (λ l. take k_waited l) (map_number-drop w list)
    ∙ ap (λ l. take k_waited (drop w l)) (sym lists) in
    let within : done_of h ≤ get_or (lengths_of job) x 0 = c.within in
    let list_long : length (get_or (numbers_of job) x []) ≡ get_or (lengths_of job) x 0 =
    length-numbers job x is px in
    let rest : length (drop w (get_or (numbers_of job) x []))
    ≡ length (get_or (numbers_of job) x []) - w =
    length-drop w (get_or (numbers_of job) x []) in
    let count : length (m.taken t k) ≡ k_waited =
    ap length taken_is
    ∙ take_full k_waited (drop w (get_or (numbers_of job) x [])) (omega arith) in
    record {
      room = omega arith;
      is = taken_is ∙ ap (λ n. take k_waited (drop n (get_or (numbers_of job) x []))) at
          ∙ ap (λ n. take n (drop (m.offset t) (get_or (numbers_of job) x []))) (sym count);
    }

pub has_read_on : (job : Job) (m : Moment) (t k : ℕ) (o : Option ℕ) → IsGraph job.graph
    → input_at (task_at job.graph t) k < length job.graph.phasers
    → PhaserRan job m (input_at (task_at job.graph t) k)
    → Composes job m (input_at (task_at job.graph t) k)
    → TakenOn job m t k (input_at (task_at job.graph t) k) o → HasRead job m t k
has_read_on job m t k None is px ran c on =
    let list = drop (m.offset t) (get_or (numbers_of job) (input_at (task_at job.graph t) k) []) in
    let none : length (m.taken t k) ≡ 0 = ap length on.0 in
    record { room = omega arith; is = on.0 ∙ ap (λ n. take n list) (sym none) }
has_read_on job m t k (Some n) is px ran c on = has_read job m t k n is px ran c on

-- ---- how far it is in its steps

-- where the input of the next step is one of the inputs, and the steps look at it
pub first_looks : (task : Task) (b : ℕ)
    → HasEnds task.kind (length task.inputs) (length task.outputs) → (task.kind ≡ Source → ⊥)
    → (first_input task b < length task.inputs) × LooksAt task.kind 0 (first_input task b)
first_looks task b ends not = by task.kind refl
  where
    some : 0 < length task.inputs
    some = has_inputs task.kind (length task.inputs) (length task.outputs) ends not

    by : (kind : Kind) → task.kind ≡ kind
        → (first_input task b < length task.inputs) × LooksAt task.kind 0 (first_input task b)
    by Source e = absurd (not e)
    by Fir e = rw e (some, tt)
    by Split e = rw e (some, tt)
    by Decimate e = rw e (some, tt)
    by Join e = rw e (mod_below b (length task.inputs) some, tt)
    by Peer e = rw e (some, refl)
    by Sink e = rw e (some, tt)

pub stands_from : (job : Job) (m : Moment) (t : ℕ) → IsGraph job.graph → t < length job.graph.tasks
    → TaskRan job m t
    → span_in job t
    ≡ span_at (task_at job.graph t) (length (samples_at job t)) (lengths_of job)
    (Some (m.offset t))
    → ((k : ℕ) → k < length (task_at job.graph t).inputs → LooksAt (task_at job.graph t).kind 0 k
    → HasRead job m t k × Composes job m (input_at (task_at job.graph t) k))
    → Stands job m t
stands_from job m t is there ran span_is reads = record {
  live = ap (λ (s : Span). s.live) span_is;
  offset = ap (λ (s : Span). s.offset) span_is;
  within = (let low : m.begun t ≤ cut_at (task_at job.graph t).until enough =
      within_cut (task_at job.graph t).until (m.begun t) enough ran.cut above in
      omega (arith, steps_are));
  ended = λ e.
      (let low : m.begun t ≤ cut_at (task_at job.graph t).until enough =
      within_cut (task_at job.graph t).until (m.begun t) enough ran.cut above in
      let same : (span_in job t).steps ≡ cut_at (task_at job.graph t).until enough = steps_are in
      let high : cut_at (task_at job.graph t).until enough ≤ m.begun t = stops e in omega arith);
}
  where
    values : List ℕ
    values = values_from (task_at job.graph t) (lengths_of job) (m.offset t)

    enough : ℕ
    enough = enough_for (task_at job.graph t) (length (samples_at job t))
        (values_from (task_at job.graph t) (lengths_of job) (m.offset t))

    steps_are : (span_in job t).steps
        ≡ cut_at (task_at job.graph t).until
        (enough_for (task_at job.graph t) (length (samples_at job t))
        (values_from (task_at job.graph t) (lengths_of job) (m.offset t)))
    steps_are = ap (λ (s : Span). s.steps) span_is

    line : IsTaskLine job.graph t (task_at job.graph t)
    line = is.tasks t there

    many : length (values_from (task_at job.graph t) (lengths_of job) (m.offset t))
        ≡ length (task_at job.graph t).inputs
    many = length-map (task_at job.graph t).inputs (λ p. get_or (lengths_of job) p 0 - m.offset t)

    value_is : (k : ℕ) → k < length (task_at job.graph t).inputs
        → get_or (values_from (task_at job.graph t) (lengths_of job) (m.offset t)) k 0
        ≡ get_or (lengths_of job) (input_at (task_at job.graph t) k) 0 - m.offset t
    value_is k lt =
        get_or-map (λ p. get_or (lengths_of job) p 0 - m.offset t) (task_at job.graph t).inputs k 0
        0 lt

    above : m.begun t
        ≤ enough_for (task_at job.graph t) (length (samples_at job t))
        (values_from (task_at job.graph t) (lengths_of job) (m.offset t))
    above = enough-above (task_at job.graph t) (length (samples_at job t))
        (values_from (task_at job.graph t) (lengths_of job) (m.offset t)) (m.begun t) line.ends many
        ran.samples
        (λ k lt looks. (let read : HasRead job m t k = (reads k lt looks).0 in
        let count : length (m.taken t k) ≡ takes_from (task_at job.graph t) (m.begun t) k =
        taken_count (task_at job.graph t) (m.begun t) k (length (m.taken t k)) line.ends lt
        looks (ran.takes k lt) in
        omega (arith, read.room, value_is k lt)))

    stops : MayStop m (task_at job.graph t) t (length (samples_at job t))
        → cut_at (task_at job.graph t).until
        (enough_for (task_at job.graph t) (length (samples_at job t))
        (values_from (task_at job.graph t) (lengths_of job) (m.offset t))) ≤ m.begun t
    stops (at_until u) = cut_until (task_at job.graph t).until (m.begun t) _ u
    stops (no_sample e few) =
        let same : enough_for (task_at job.graph t) (length (samples_at job t))
        (values_from (task_at job.graph t) (lengths_of job) (m.offset t))
        ≡ length (samples_at job t) =
        source_enough (task_at job.graph t) (length (samples_at job t))
        (values_from (task_at job.graph t) (lengths_of job) (m.offset t)) e in
        cut_below (task_at job.graph t).until (m.begun t) _ (omega arith)
    stops (no_input not out) =
        let k = first_input (task_at job.graph t) (m.begun t) in
        let at = first_looks (task_at job.graph t) (m.begun t) line.ends not in
        let both = reads k at.0 at.1 in
        let count : length (m.taken t k) ≡ takes_from (task_at job.graph t) (m.begun t) k =
        taken_count (task_at job.graph t) (m.begun t) k (length (m.taken t k)) line.ends at.0
        at.1 (ran.takes k at.0) in
        cut_below (task_at job.graph t).until (m.begun t) _
        (enough-below (task_at job.graph t) (length (samples_at job t))
        (values_from (task_at job.graph t) (lengths_of job) (m.offset t)) (m.begun t) line.ends
        many not (omega (arith, both.1.whole out.0, out.1, value_is k at.0)))

-- ---- what it has put

pub exchanged_as : (kind : Kind) (j put a b : ℕ) → (kind ≡ Peer → a ≡ b) → HasExchanged kind j put a
    → HasExchanged kind j put b
exchanged_as Source j put a b same x = tt
exchanged_as Fir j put a b same x = tt
exchanged_as Split j put a b same x = tt
exchanged_as Decimate j put a b same x = tt
exchanged_as Join j put a b same x = tt
exchanged_as Sink j put a b same x = tt
exchanged_as Peer zero put a b same x = tt
exchanged_as Peer (suc j) put a b same x = subst (λ n. put ≤ n) (same refl) x

pub now_at : (m : Moment) (task : Task) (t k : ℕ) → k < length task.inputs
    → get_or (taken_now m task t) k [] ≡ m.taken t k
now_at m task t k lt =
    let same : 0 + k ≡ k = omega arith in
    get_or-map-range_with_len (m.taken t) 0 (length task.inputs) k k [] lt same

all_at : (lists : List (List ℤ)) (task : Task) (span : Span) (k : ℕ) → k < length task.inputs
    → get_or (taken_by lists task span) k [] ≡ taken_from lists task span k
all_at lists task span k lt =
    let same : 0 + k ≡ k = omega arith in
    get_or-map-range_with_len (taken_from lists task span) 0 (length task.inputs) k k [] lt same

-- the numbers of values that it took
pub now_counts : (job : Job) (m : Moment) (t : ℕ) → IsTaskLine job.graph t (task_at job.graph t)
    → TaskRan job m t → (k : ℕ) → k < length (task_at job.graph t).inputs
    → LooksAt (task_at job.graph t).kind 0 k
    → length (get_or (taken_now m (task_at job.graph t) t) k [])
    ≡ takes_from (task_at job.graph t) (m.begun t) k
now_counts job m t line ran k lt looks =
    ap length (now_at m (task_at job.graph t) t k lt)
    ∙ taken_count (task_at job.graph t) (m.begun t) k (length (m.taken t k)) line.ends lt looks
    (ran.takes k lt)

-- what it has taken begins what it takes
pub taken_begins : (job : Job) (m : Moment) (t k : ℕ) → IsTaskLine job.graph t (task_at job.graph t)
    → TaskRan job m t → Stands job m t
    → k < length (task_at job.graph t).inputs → HasRead job m t k
    → IsPrefix (m.taken t k) (taken_from (numbers_of job) (task_at job.graph t) (span_in job t) k)
taken_begins job m t k line ran stands lt read =
    let task = task_at job.graph t in
    let span = span_in job t in
    let x = input_at task k in
    let list = get_or (numbers_of job) x [] in
    let within : m.begun t ≤ span.steps = stands.within in
    let few : length (m.taken t k) ≤ takes_from task (m.begun t) k =
    taken_most task (m.begun t) k (length (m.taken t k)) line.ends lt (ran.takes k lt) in
    subst (λ (l : List ℤ). IsPrefix l (taken_from (numbers_of job) task span k)) (sym read.is)
    (subst (λ (o : ℕ). IsPrefix (take (length (m.taken t k)) (drop o list)) (taken_from (numbers_of
    job) task span k)) stands.offset
    (take_prefix (length (m.taken t k)) (takes_from task span.steps k)
    (drop span.offset list) (omega (arith, takes-mono task (m.begun t) span.steps k lt within))))

-- what begins all that its begun steps make begins its output list
pub made_begins : (job : Job) (m : Moment) (t j : ℕ) (put : List ℤ) → IsGraph job.graph
    → t < length job.graph.tasks → TaskRan job m t → Stands job m t
    → j < length (signalled_by (task_at job.graph t))
    → ((k : ℕ) → k < length (task_at job.graph t).inputs → LooksAt (task_at job.graph t).kind j k
    → HasRead job m t k)
    → HasExchanged (task_at job.graph t).kind j (length put) (length (m.taken t 1))
    → IsPrefix put (made_now job m t j)
    → IsPrefix put (output_on job (schedule_of job) (numbers_of job) t j)
made_begins job m t j put is there ran stands lt reads exchanged begins =
    let task = task_at job.graph t in
    let line : IsTaskLine job.graph t task = is.tasks t there in
    let span = span_in job t in
    let now = taken_now m task t in
    let all = taken_by (numbers_of job) task span in
    outputs_begin (samples_at job t) task now all (m.begun t) span.steps j put line.ends
    line.every lt stands.within
    (length-map-range_with_len (m.taken t) 0 (length task.inputs))
    (length-map-range_with_len (taken_from (numbers_of job) task span) 0 (length task.inputs))
    (λ k below looks. (rw (now_at m task t k below)
    (rw (all_at (numbers_of job) task span k below)
    (taken_begins job m t k line ran stands below (reads k below looks)))))
    (λ k below looks. now_counts job m t line ran k below looks)
    (exchanged_as task.kind j (length put) (length (m.taken t 1)) (length (get_or now 1 []))
    (λ e. (let both : (length task.inputs ≡ 2) × (length task.outputs ≡ 1) = rw e at line.ends in
    ap length (sym (now_at m task t 1 (omega (arith, both.0))))))
    exchanged)
    begins

pub puts_from : (job : Job) (m : Moment) (t j : ℕ) → IsGraph job.graph → t < length job.graph.tasks
    → TaskRan job m t → Stands job m t
    → j < length (signalled_by (task_at job.graph t))
    → ((k : ℕ) → k < length (task_at job.graph t).inputs → LooksAt (task_at job.graph t).kind j k
    → HasRead job m t k)
    → PutsOut job m t j
puts_from job m t j is there ran stands lt reads =
    let task = task_at job.graph t in
    let line : IsTaskLine job.graph t task = is.tasks t there in
    let begins : IsPrefix (m.put t j) (output_on job (schedule_of job) (numbers_of job) t j) =
    made_begins job m t j (m.put t j) is there ran stands lt reads (ran.exchanged j)
    (ran.puts j lt) in
    record {
      begins = begins;
      ended = λ e.
          (let same : m.begun t ≡ (span_in job t).steps = stands.ended e.may_end in
          let made : length (made_now job m t j) ≡ puts_on task (m.begun t) j =
          length_made (samples_at job t) task (taken_now m task t) (m.begun t) j line.ends lt
          ran.samples (λ k below looks. now_counts job m t line ran k below looks) in
          let put : length (m.put t j) ≡ length (made_now job m t j) = ap length (e.all_put j lt) in
          let all : length (output_on job (schedule_of job) (numbers_of job) t j)
          ≡ puts_on task (span_in job t).steps j = outputs_long job t j is there lt in
          let steps : puts_on task (m.begun t) j ≡ puts_on task (span_in job t).steps j =
          ap (λ n. puts_on task n j) same in
          prefix_whole (m.put t j) (output_on job (schedule_of job) (numbers_of job) t j) begins
          (omega arith));
    }

-- What is too big: a value that a task met, or a value that it made, is one that the definitions
-- have out of range. Where none was met at the end, all fit.
use Rattle.std.proofs.Common.{◌≡◌, ◌≢◌, ℕ, zero, suc, ◌+◌, ◌-◌, ◌<◌, ◌≤◌, true, false, ◌&&◌, leb, List, [], ◌∷◌, Option, Some, None, ℤ, pos, length, map, get_or, take, drop, refl, sym, ap, ◌∙◌, arith}
use Rattle.std.specs.Prelude.{slice_range, Ok}
use Rattle.std.specs.List.{range_with_len}
use mathlib.Core.List.{IsPrefix}
use Rattle.std.proofs.lemmas.Bool.{le-leb, and_from}
use Rattle.std.proofs.lemmas.List.{length-map}
use Rattle.std.proofs.lemmas.List.FromFn.{get_or-map-range_with_len}
use Rattle.phase_accum.specs.declared.outcome.Outcome.{Outcome}
use Rattle.phase_accum.specs.declared.outcome.Outcome.TheVariants.{Value, Empty, TooBig}
use Rattle.phase_accum.specs.declared.single.Single.{Single}
use Rattle.phase_accum.specs.Sends.{AreSends}
use Rattle.phase_accum.specs.Values.{applied}
use Rattle.phase_history.specs.Histories.{done_of, phases_waited}
use Rattle.phase_history.specs.Phases.{value_of_phase, stream_of, received_by}
use Rattle.phase_history.specs.Laws.{HasReceivedFrom}
use Rattle.phase_history.specs.Legal.{AreLists}
use Rattle.phase_history.proofs.Left.{received_law}
use Rattle.phase_history.proofs.Sendable.{sent_are_lists}
use Rattle.graph_base.specs.declared.line.Kind.{Kind}
use Rattle.graph_base.specs.declared.line.Kind.TheVariants.{Source, Fir, Split, Decimate, Join, Peer, Sink}
use Rattle.graph_base.specs.Graphs.{task_at, phaser_at}
use Rattle.graph_base.specs.TaskLines.{IsGraph, IsTaskLine}
use Rattle.stream_lists.specs.Jobs.{Job, samples_at, index_in}
use Rattle.stream_lists.specs.Spans.{span_in, takes_from, signalled_by, puts_on, LooksAt, schedule_of}
use Rattle.stream_lists.specs.Lists.{contributions_on, sends_in, numbers_of, output_on, phase_in, sinks_of, number}
use Rattle.stream_lists.specs.Ranges.{Where, is_out_of_range, are_made, takes_phase, task_takes, is_taken, is_too_big, first_too_big, Fits, answer_of}
use Rattle.stream_lists.proofs.Ordered.{place-at, place_of_input}
use Rattle.graph_runs.specs.Moments.{one, Moment, HasRun, TaskRan, HasEnded, IsRegistered, IsOver, OnOutput, OnInput, HasMetNone, input_at, taken_now, made_now, limits_at, value_at, HasExchanged}
use Rattle.graph_base.specs.declared.place.Place.TheVariants as place
use Rattle.graph_runs.specs.Settled.{Stands, PutsOut, IsFaultAt, IsPlaceThere}
use Rattle.graph_runs.proofs.Composed.{Composes}
use Rattle.graph_runs.proofs.OnLines.{signalled_within}
use Rattle.graph_runs.proofs.Entries.{prefix_length, prefix_at, take_full, take_length, get_or-take, get_or-drop}
use Rattle.graph_runs.proofs.StepsLemmas.{takes-mono, taken_most, taken_count}
use Rattle.graph_runs.proofs.OutputLists.{length_made}
use Rattle.graph_runs.proofs.Tasks.{now_counts, made_begins}
use Rattle.graph_runs.proofs.Whole.{composes, over_ended, stands_all, reads_all, puts_all}
use Rattle.graph_runs.proofs.Results.{came_in, came_out, lines_are}
use Rattle.graph_runs.proofs.Faults.{phase_faults, output_faults_at}
use Rattle.graph_runs.proofs.Started.{IsReadyAt}
use Rattle.stream_lists.specs.Entries.{AreInRange, Takes}
use Rattle.stream_lists.proofs.Fitting.{any-at, made_on, fits_from}

-- ---- a value that was met

-- a single leaves what is too big, and makes nothing so
single_leaves : (single : Option Single) (o : Outcome) → applied single o ≡ TooBig
    → is_too_big o ≡ true
single_leaves None o e = ap is_too_big e
single_leaves (Some s) TooBig e = refl
single_leaves (Some s) Empty e = absurd (cc)
single_leaves (Some s) (Value v) e = absurd (cc)

-- a task has taken this phase of its input number k, and the phase is too big
pub met_is_fault : (job : Job) (m : Moment) (t k n : ℕ) → IsReadyAt job m → HasRun job m
    → t < length job.graph.tasks → k < length (task_at job.graph t).inputs
    → IsRegistered m t → m.offset t ≤ n → n < m.offset t + length (m.taken t k)
    → n < done_of (m.history (input_at (task_at job.graph t) k))
    → value_of_phase (value_at job (input_at (task_at job.graph t) k))
    (m.history (input_at (task_at job.graph t) k)) n ≡ TooBig
    → IsFaultAt job (place.Phaser (input_at (task_at job.graph t) k), n)
met_is_fault job m t k n ready ran there lt registered low high complete met =
    let task = task_at job.graph t in
    let x = input_at task k in
    let line = ready.graph.tasks t there in
    let px : x < length job.graph.phasers = line.inputs k 0 lt in
    let c : Composes job m x = composes job m ready ran x px in
    let s : Stands job m t = stands_all job m ready ran t there registered in
    let span = span_in job t in
    let steps : m.begun t ≤ span.steps = s.within in
    let offset : span.offset ≡ m.offset t = s.offset in
    let few : length (m.taken t k) ≤ takes_from task (m.begun t) k =
    taken_most task (m.begun t) k (length (m.taken t k)) line.ends lt
    ((ran.tasks t there).takes k lt) in
    let more : takes_from task (m.begun t) k ≤ takes_from task span.steps k =
    takes-mono task (m.begun t) span.steps k lt steps in
    let big : is_too_big
    (value_at job x (sends_in (contributions_on job (schedule_of job) (numbers_of job) x) n)) ≡ true =
    single_leaves (phaser_at job.graph x).single _ (sym (c.values n complete) ∙ met) in
    let begins : leb span.offset n ≡ true = le-leb span.offset n (omega arith) in
    let ends : leb (suc n) (span.offset + takes_from task span.steps k) ≡ true =
    le-leb (suc n) (span.offset + takes_from task span.steps k) (omega arith) in
    let takes : task_takes job (schedule_of job) x n t ≡ true =
    ap (λ o. takes_phase task span n o) (place_of_input job.graph t k ready.graph there lt)
    ∙ and_from (span.live && leb span.offset n)
    (leb (suc n) (span.offset + takes_from task span.steps k))
    (and_from span.live (leb span.offset n) s.live begins) ends in
    let taken : is_taken job (schedule_of job) x n ≡ true =
    any-at (task_takes job (schedule_of job) x n) 0 (length job.graph.tasks) t (omega arith)
    (omega arith) takes in
    (omega (arith, c.within), and_from _ _ big taken)

-- ---- a value that was made

-- entry i of what a task makes on phaser p, its output number j, over what it has taken, is out of
-- range
pub made_is_fault : (job : Job) (m : Moment) (t j p i : ℕ) → IsReadyAt job m → HasRun job m
    → t < length job.graph.tasks → p < length job.graph.phasers
    → IsRegistered m t → index_in (signalled_by (task_at job.graph t)) p ≡ Some j
    → are_made (task_at job.graph t).kind j ≡ true
    → i < length (made_now job m t j)
    → HasExchanged (task_at job.graph t).kind j (suc i) (length (m.taken t 1))
    → is_out_of_range (get_or (made_now job m t j) i (pos 0)) ≡ true
    → IsFaultAt job (place.Task t, i)
made_is_fault job m t j p i ready ran there pp registered placed made lt exchanged big =
    let s : Stands job m t = stands_all job m ready ran t there registered in
    let all = output_on job (schedule_of job) (numbers_of job) t j in
    let front = take (suc i) (made_now job m t j) in
    let long : length front ≡ suc i = take_full (suc i) (made_now job m t j) (omega arith) in
    let whole : IsPrefix front (made_now job m t j) = front_begins (suc i) (made_now job m t j) in
    let begins : IsPrefix front all =
    made_begins job m t j front ready.graph there (ran.tasks t there) s
    (place-at (signalled_by (task_at job.graph t)) p j placed).0
    (λ k below looks. reads_all job m ready ran t k there below) (rw long exchanged)
    whole in
    let fits : length front ≤ length all = prefix_length front all begins in
    let same : get_or all i (pos 0) ≡ get_or (made_now job m t j) i (pos 0) =
    prefix_at front all i (pos 0) begins (omega arith)
    ∙ sym (prefix_at front (made_now job m t j) i (pos 0) whole (omega arith)) in
    (p, j, placed, s.live, made, omega arith, ap is_out_of_range same ∙ big)
  where
    front_begins : (n : ℕ) (xs : List ℤ) → IsPrefix (take n xs) xs
    front_begins zero xs = (xs, refl)
    front_begins (suc n) [] = ([], refl)
    front_begins (suc n) (x ∷ xs) = let r = front_begins n xs in (r.0, ap (λ l. x ∷ l) r.1)

-- so the job does not fit
pub fault_tells : (job : Job) (at : Where) → IsGraph job.graph → IsPlaceThere job at → IsFaultAt job at
    → first_too_big job ≢ None
fault_tells job (place.Phaser p, n) is there f = phase_faults job p n is there f.0 f.1
fault_tells job (place.Task t, i) is there f =
    output_faults_at job f.0 t f.1 i is (signalled_within job t f.0 f.1 is there f.2) there f.2 f.3
    f.4 f.5 f.6

-- ---- at the end

puts_are_sends : (put : List ℤ) → AreLists (map one put) → AreSends put
puts_are_sends [] all = tt
puts_are_sends (v ∷ put) all = (all.0.0, puts_are_sends put all.2)

-- what a registered task has taken in the end, a peer's E too
taken_all : (job : Job) (m : Moment) (t k : ℕ) → IsReadyAt job m → HasRun job m → IsOver job m
    → t < length job.graph.tasks → k < length (task_at job.graph t).inputs
    → IsRegistered m t
    → takes_from (task_at job.graph t) (span_in job t).steps k ≤ length (m.taken t k)
taken_all job m t k ready ran over there lt registered =
    let task = task_at job.graph t in
    let s : Stands job m t = stands_all job m ready ran t there registered in
    let e : HasEnded job m t = over_ended job m ready ran over t there registered in
    let same : m.begun t ≡ (span_in job t).steps = s.ended e.may_end in
    let steps : takes_from task (m.begun t) k ≡ takes_from task (span_in job t).steps k =
    ap (λ n. takes_from task n k) same in
    omega (arith, by e task.kind k refl refl)
  where
    line : IsTaskLine job.graph t (task_at job.graph t)
    line = ready.graph.tasks t there

    r : TaskRan job m t
    r = ran.tasks t there

    exact : LooksAt (task_at job.graph t).kind 0 k
        → takes_from (task_at job.graph t) (m.begun t) k ≤ length (m.taken t k)
    exact looks =
        let count : length (m.taken t k) ≡ takes_from (task_at job.graph t) (m.begun t) k =
        taken_count (task_at job.graph t) (m.begun t) k (length (m.taken t k)) line.ends lt
        looks (r.takes k lt) in omega arith

    by : HasEnded job m t → (kind : Kind) (i : ℕ) → (task_at job.graph t).kind ≡ kind → k ≡ i
        → takes_from (task_at job.graph t) (m.begun t) k ≤ length (m.taken t k)
    by e Source i is at = exact (rw is tt)
    by e Fir i is at = exact (rw is tt)
    by e Split i is at = exact (rw is tt)
    by e Decimate i is at = exact (rw is tt)
    by e Join i is at = exact (rw is tt)
    by e Sink i is at = exact (rw is tt)
    by e Peer zero is at = exact (rw is at)
    by e Peer (suc zero) is at =
        let task = task_at job.graph t in
        let two : 1 < length (signalled_by task) = rw is (omega arith) in
        let put : length (m.put t 1) ≡ length (made_now job m t 1) = ap length (e.all_put 1 two) in
        let made : length (made_now job m t 1) ≡ puts_on task (m.begun t) 1 =
        length_made (samples_at job t) task (taken_now m task t) (m.begun t) 1 line.ends two
        r.samples (λ k below looks. now_counts job m t line r k below looks) in
        let puts : puts_on task (m.begun t) 1 ≡ m.begun t = rw is refl in
        let takes : takes_from task (m.begun t) k ≡ m.begun t = rw is refl in
        let fits : length (m.put t 1) ≤ length (m.taken t 1) = rw is at (r.exchanged 1) in
        let here : length (m.taken t k) ≡ length (m.taken t 1) =
        ap (λ i. length (m.taken t i)) at in
        omega arith
    by e Peer (suc (suc i)) is at =
        let both : (length (task_at job.graph t).inputs ≡ 2)
        × (length (task_at job.graph t).outputs ≡ 1) = rw is at line.ends in
        absurd (omega (arith, both.0))

not_too_big : (single : Option Single) (o : Outcome) → is_too_big (applied single o) ≡ false
    → is_too_big o ≡ false
not_too_big None o e = e
not_too_big (Some s) TooBig e = e
not_too_big (Some s) Empty e = refl
not_too_big (Some s) (Value v) e = refl

slice_entry : (f : ℕ → Outcome) (n a k i : ℕ) → a + k ≤ n → i < k
    → get_or (slice_range (map f (range_with_len 0 n)) a (a + k)) i Empty ≡ f (a + i)
slice_entry f n a k i fits lt =
    let same : a + k - a ≡ k = omega arith in
    let at : 0 + (a + i) ≡ a + i = omega arith in
    ap (λ c. get_or (take c (drop a (map f (range_with_len 0 n)))) i Empty) same
    ∙ get_or-take (drop a (map f (range_with_len 0 n))) k i Empty lt
    ∙ get_or-drop (map f (range_with_len 0 n)) a i Empty
    ∙ get_or-map-range_with_len f 0 n (a + i) (a + i) Empty (omega arith) at

pub all_fit : (job : Job) (m : Moment) → IsReadyAt job m → HasRun job m → IsOver job m
    → HasMetNone job m → AreInRange job
all_fit job m ready ran over none = record {
  outputs = λ t j makes.
      (let on = made_on job t j ready.graph makes in
      output on.0 t j on.1 makes.there on.2 makes.live (m.number on.0 t) refl);
  phases = λ p n t pp lt takes e.
      (let fine = phase p t n pp takes.there takes in
      let clash : true ≡ false = sym (ap is_too_big e) ∙ fine in cc);
}
  where
    output : (p t j : ℕ) → p < length job.graph.phasers → t < length job.graph.tasks
        → index_in (signalled_by (task_at job.graph t)) p ≡ Some j → (span_in job t).live ≡ true
        → (o : Option ℕ) → m.number p t ≡ o
        → AreSends (output_on job (schedule_of job) (numbers_of job) t j)
    output p t j pp there place live None absent =
        absurd (came_out job m ready ran over t p j there pp place absent live)
    output p t j pp there place live (Some n) some =
        let on : OnOutput job m t j p n =
        rw some at (rw place at ((ran.tasks t there).outputs p pp)) in
        let o : PutsOut job m t j =
        puts_all job m ready ran t j there (p, n, some)
        (place-at (signalled_by (task_at job.graph t)) p j place).0 in
        let whole : m.put t j ≡ output_on job (schedule_of job) (numbers_of job) t j =
        o.ended (over_ended job m ready ran over t there (p, n, some)) in
        rw whole at (puts_are_sends (m.put t j)
        (rw on.sent at (sent_are_lists (limits_at job p) (m.history p) n (ran.phasers p pp).legal)))

    phase : (p t n : ℕ) → p < length job.graph.phasers → t < length job.graph.tasks
        → Takes job p n t
        → is_too_big
        (value_at job p (sends_in (contributions_on job (schedule_of job) (numbers_of job) p) n)) ≡ false
    phase p t n pp there takes =
        let task = task_at job.graph t in
        let here = place-at task.inputs p takes.input takes.waits in
        number_case takes.input here.0 here.1 takes.live takes.begun takes.within
        (m.number (input_at task takes.input) t) refl
      where
        number_case : (k : ℕ) → k < length (task_at job.graph t).inputs
            → get_or (task_at job.graph t).inputs k 0 ≡ p → (span_in job t).live ≡ true
            → (span_in job t).offset ≤ n
            → n < (span_in job t).offset + takes_from (task_at job.graph t) (span_in job t).steps k
            → (o : Option ℕ) → m.number (input_at (task_at job.graph t) k) t ≡ o
            → is_too_big
            (value_at job p (sends_in (contributions_on job (schedule_of job) (numbers_of job) p) n))
            ≡ false
        number_case k lt is live low high None absent =
            absurd (came_in job m ready ran over (suc t) t k (omega arith) there lt absent live)
        number_case k lt is live low high (Some a) some =
            let x = input_at (task_at job.graph t) k in
            let px : x < length job.graph.phasers = (ready.graph.tasks t there).inputs k 0 lt in
            let registered : IsRegistered m t = (x, a, some) in
            let on : OnInput job m t k x a = rw some at ((ran.tasks t there).inputs k lt) in
            let s : Stands job m t = stands_all job m ready ran t there registered in
            let offset : (span_in job t).offset ≡ m.offset t = s.offset in
            let value = value_at job x in
            let h = m.history x in
            let got : HasReceivedFrom value h a on.start =
            received_law value (limits_at job x) h a on.start (ran.phasers x px).legal
            on.start_is on.waits in
            let complete : on.start.wait_phase + phases_waited h a ≤ done_of h = got.complete in
            let at : on.start.wait_phase ≡ m.offset t = on.at in
            let all : takes_from (task_at job.graph t) (span_in job t).steps k
            ≤ length (m.taken t k) = taken_all job m t k ready ran over there lt registered in
            let long : length (m.taken t k) ≡ length (received_by value h a) =
            ap length on.taken
            ∙ length-map (received_by value h a) number in
            let slice : length (received_by value h a) ≤ phases_waited h a =
            (let l : length
            (slice_range (stream_of value h) on.start.wait_phase
            (on.start.wait_phase + phases_waited h a))
            ≤ on.start.wait_phase + phases_waited h a - on.start.wait_phase =
            take_length
            (on.start.wait_phase + phases_waited h a - on.start.wait_phase)
            (drop on.start.wait_phase (stream_of value h)) in
            let r : length (received_by value h a)
            ≡ length (slice_range (stream_of value h) on.start.wait_phase
            (on.start.wait_phase + phases_waited h a)) = ap length got.received in
            omega arith) in
            let i = n - m.offset t in
            let place : on.start.wait_phase + i ≡ n = omega arith in
            let entry : get_or (received_by value h a) i Empty ≡ value_of_phase value h n =
            ap (λ l. get_or l i Empty) got.received
            ∙ slice_entry (value_of_phase value h) (done_of h) on.start.wait_phase
            (phases_waited h a) i complete (omega arith)
            ∙ ap (value_of_phase value h) place in
            let fine : is_too_big (get_or (received_by value h a) i Empty) ≡ false =
            none x t a px there some i Empty (omega arith) in
            let c : Composes job m x = composes job m ready ran x px in
            let composed : value_of_phase value h n
            ≡ phase_in value job x (contributions_on job (schedule_of job) (numbers_of job) x) n =
            c.values n (omega arith) in
            rw is at (not_too_big (phaser_at job.graph x).single _
            (ap is_too_big (sym (entry ∙ composed)) ∙ fine))

-- where no wait was answered a value that is too big, all fit, and the answer is what the sinks
-- have taken
pub fits : (job : Job) (m : Moment) → IsReadyAt job m → HasRun job m → IsOver job m
    → HasMetNone job m
    → Fits job
fits job m ready ran over none = fits_from job ready.graph (all_fit job m ready ran over none)

pub answer_is : (job : Job) (m : Moment) → IsReadyAt job m → HasRun job m → IsOver job m
    → HasMetNone job m
    → answer_of job ≡ Ok (map (λ t. (t, m.taken t 0)) (sinks_of job))
answer_is job m ready ran over none =
    let all : first_too_big job ≡ None = fits job m ready ran over none in
    rw all (ap (λ lines. Ok lines) (lines_are job m ready ran over))

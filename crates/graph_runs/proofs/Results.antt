-- What a run of a graph has done, at any moment and at its end.
use Rattle.std.proofs.Common.{◌≡◌, ℕ, zero, suc, ◌+◌, ◌<◌, ◌≤◌, Bool, true, false, cond, [], ◌∷◌, ◌++◌, Option, Some, None, length, map, get_or, take, drop, refl, sym, ap, ◌∙◌, arith, ◌⊎◌, inl, inr}
use mathlib.Core.List.{IsPrefix}
use Rattle.std.specs.List.{range_with_len, filter}
use Rattle.std.proofs.lemmas.List.FromFn.{length-map-range_with_len}
use Rattle.std.proofs.lemmas.Bool.{cases_Bool}
use Rattle.phase_history.specs.Histories.{done_of, HasNoSignaller}
use Rattle.phase_history.specs.Phases.{stream_of, value_of_phase}
use Rattle.graph_base.specs.declared.line.Kind.TheVariants.{Sink}
use Rattle.graph_base.specs.declared.line.Parent.{Parent}
use Rattle.graph_base.specs.Graphs.{Task, task_at}
use Rattle.graph_base.specs.TaskLines.{IsParent}
use Rattle.stream_lists.specs.declared.span.Span.{Span}
use Rattle.stream_lists.specs.Jobs.{Job, samples_at, start_at, index_in}
use Rattle.stream_lists.specs.Spans.{spans_of, lengths_of, span_at, span_in, offset_of, takes_from, signalled_by, LooksAt, schedule_of}
use Rattle.stream_lists.specs.Lists.{numbers_of, list_over, phase_in, contributions_on, taken_from, sink_over, sinks_of, is_sink_at, lines_of}
use Rattle.stream_lists.proofs.SpansAbove.{spans_all}
use Rattle.stream_lists.proofs.Ordered.{parent_waits}
use Rattle.stream_lists.proofs.Basics.{sink_kind}
use Rattle.graph_runs.specs.Moments.{Moment, HasRun, IsRegistered, IsOver, IsChild, HasNotPassed, TakenOn, input_at, value_at}
use Rattle.graph_runs.specs.Settled.{Stands}
use Rattle.graph_runs.proofs.Composed.{Composes}
use Rattle.graph_runs.proofs.Entries.{prefix_whole, take_length}
use Rattle.graph_runs.proofs.StepsLemmas.{taken_count}
use Rattle.graph_runs.proofs.Tasks.{stream_begins, taken_begins}
use Rattle.graph_runs.proofs.Whole.{composes, over_ended, stands_all, reads_all, parent_of, FromParent, from_parent, awaited}
use Rattle.graph_runs.proofs.Started.{IsReadyAt}

-- each stream begins its phaser's list
pub streams_begin : (job : Job) (m : Moment) (p : ℕ) → IsReadyAt job m → HasRun job m
    → p < length job.graph.phasers
    → IsPrefix (stream_of (value_at job p) (m.history p))
    (list_over job (schedule_of job) (numbers_of job) p)
streams_begin job m p ready ran pp = stream_begins job m p (composes job m ready ran p pp)

-- and is all of it where no task signals any more
pub streams_whole : (job : Job) (m : Moment) (p : ℕ) → IsReadyAt job m → HasRun job m
    → p < length job.graph.phasers
    → HasNoSignaller (m.history p)
    → stream_of (value_at job p) (m.history p)
    ≡ list_over job (schedule_of job) (numbers_of job) p
streams_whole job m p ready ran pp quiet =
    let c : Composes job m p = composes job m ready ran p pp in
    let stream = stream_of (value_at job p) (m.history p) in
    let list = list_over job (schedule_of job) (numbers_of job) p in
    let a : length stream ≡ done_of (m.history p) =
    length-map-range_with_len (value_of_phase (value_at job p) (m.history p)) 0
    (done_of (m.history p)) in
    let b : length list ≡ get_or (lengths_of job) p 0 =
    length-map-range_with_len
    (phase_in (value_at job p) job p (contributions_on job (schedule_of job) (numbers_of job) p)) 0
    (get_or (lengths_of job) p 0) in
    prefix_whole stream list (stream_begins job m p c) (omega (arith, c.whole quiet))

-- what a task has taken from an input begins what it takes from it
pub taken_begin : (job : Job) (m : Moment) (t k : ℕ) → IsReadyAt job m → HasRun job m
    → t < length job.graph.tasks → k < length (task_at job.graph t).inputs
    → IsPrefix (m.taken t k) (taken_from (numbers_of job) (task_at job.graph t) (span_in job t) k)
taken_begin job m t k ready ran there lt = by (m.number x t) refl ((ran.tasks t there).inputs k lt)
  where
    x : ℕ
    x = input_at (task_at job.graph t) k

    by : (o : Option ℕ) → m.number (input_at (task_at job.graph t) k) t ≡ o
        → TakenOn job m t k (input_at (task_at job.graph t) k)
        (m.number (input_at (task_at job.graph t) k) t)
        → IsPrefix (m.taken t k)
        (taken_from (numbers_of job) (task_at job.graph t) (span_in job t) k)
    by None none on =
        let nothing : m.taken t k ≡ [] = (rw none at on).0 in
        let values = taken_from (numbers_of job) (task_at job.graph t) (span_in job t) k in
        (values, ap (λ l. l ++ values) nothing)
    by (Some n) some on =
        taken_begins job m t k (ready.graph.tasks t there) (ran.tasks t there)
        (stands_all job m ready ran t there (input_at (task_at job.graph t) k, n, some)) lt
        (reads_all job m ready ran t k there lt)

-- ---- at the end

-- each task that the definitions have was registered on each phaser that it waits for
pub came_in : (job : Job) (m : Moment) → IsReadyAt job m → HasRun job m → IsOver job m
    → (fuel t k : ℕ) → t < fuel → t < length job.graph.tasks
    → k < length (task_at job.graph t).inputs
    → m.number (input_at (task_at job.graph t) k) t ≡ None → (span_in job t).live ≡ true → ⊥
came_in job m ready ran over zero t k below there lt none live = absurd (omega arith)
came_in job m ready ran over (suc fuel) t k below there lt none live =
    let gone : IsChild (task_at job.graph t).parent =
    (rw none at ((ran.tasks t there).inputs k lt)).1 in
    by ((task_at job.graph t).parent) refl gone (spans_all job t ready.graph there)
    (λ u i e lti n live_u.
    (let ip : IsParent job.graph t (task_at job.graph t) u =
    parent_of job t u ready.graph there e in
    let above : u.task < t = ip.above in
    came_in job m ready ran over fuel u.task i (omega arith) (omega arith) lti n live_u))
  where
    by : (parent : Option Parent) → (task_at job.graph t).parent ≡ parent → IsChild parent
        → span_in job t
        ≡ span_at (task_at job.graph t) (length (samples_at job t)) (lengths_of job)
        (offset_of (spans_of job) (start_at job t) (task_at job.graph t).parent)
        → ((u : Parent) (i : ℕ) → (task_at job.graph t).parent ≡ Some u
        → i < length (task_at job.graph u.task).inputs
        → m.number (input_at (task_at job.graph u.task) i) u.task ≡ None
        → (span_in job u.task).live ≡ true → ⊥)
        → ⊥
    by None e gone is up = gone
    by (Some u) e gone is up =
        let ip : IsParent job.graph t (task_at job.graph t) u =
        parent_of job t u ready.graph there e in
        let above : u.task < t = ip.above in
        let fp : FromParent job t u =
        from_parent job t (length (samples_at job t)) (task_at job.graph t) (start_at job t) u
        (is ∙ ap (λ o.
        span_at (task_at job.graph t) (length (samples_at job t)) (lengths_of job)
        (offset_of (spans_of job) (start_at job t) o)) e) live in
        let i = parent_waits job.graph t (task_at job.graph t) u k ip lt in
        number_case (m.number (input_at (task_at job.graph t) k) u.task) refl fp (omega arith)
        (λ n. up u i.0 e i.1 (ap (λ x. m.number x u.task) i.2 ∙ n) fp.live)
      where
        number_case : (o : Option ℕ) → m.number (input_at (task_at job.graph t) k) u.task ≡ o
            → FromParent job t u → u.task < length job.graph.tasks
            → (m.number (input_at (task_at job.graph t) k) u.task ≡ None → ⊥) → ⊥
        number_case None none_u fp there_u up = up none_u
        number_case (Some n) some fp there_u up =
            let x = input_at (task_at job.graph t) k in
            let a : HasNotPassed m x n u =
            (ran.tasks u.task there_u).children t x n u there e refl some none
            (inr (k, lt, refl)) in
            let registered : IsRegistered m u.task = (x, n, some) in
            let s : Stands job m u.task = stands_all job m ready ran u.task there_u registered in
            let same : m.begun u.task ≡ (span_in job u.task).steps =
            s.ended (over_ended job m ready ran over u.task there_u registered).may_end in
            absurd (omega (arith, a.ended (over.gone x u.task n there_u some), fp.comes))

-- and on each that it signals
pub came_out : (job : Job) (m : Moment) → IsReadyAt job m → HasRun job m → IsOver job m
    → (t p j : ℕ)
    → t < length job.graph.tasks → p < length job.graph.phasers
    → index_in (signalled_by (task_at job.graph t)) p ≡ Some j → m.number p t ≡ None
    → (span_in job t).live ≡ true → ⊥
came_out job m ready ran over t p j there pp place none live =
    (awaited job m ready ran p pp
    (λ u i there_u at registered. stands_all job m ready ran u there_u registered) (suc t) t j
    (omega arith) there place none live []).held (over.quiet p pp)

dead_span : (job : Job) (t n : ℕ) (task : Task) (o : Option ℕ)
    → span_in job t ≡ span_at task n (lengths_of job) o → (span_in job t).live ≡ false
    → (span_in job t).steps ≡ 0
dead_span job t n task None is dead = ap (λ (s : Span). s.steps) is
dead_span job t n task (Some o) is dead =
    absurd (let e : true ≡ false = sym (ap (λ (s : Span). s.live) is) ∙ dead in cc)

-- what a task has taken from an input that its steps look at is all that it takes
pub taken_whole : (job : Job) (m : Moment) (t k : ℕ) → IsReadyAt job m → HasRun job m → IsOver job m
    → t < length job.graph.tasks
    → k < length (task_at job.graph t).inputs → LooksAt (task_at job.graph t).kind 0 k
    → IsRegistered m t
    → m.taken t k ≡ taken_from (numbers_of job) (task_at job.graph t) (span_in job t) k
taken_whole job m t k ready ran over there lt looks registered =
    let task = task_at job.graph t in
    let span = span_in job t in
    let s : Stands job m t = stands_all job m ready ran t there registered in
    let same : m.begun t ≡ span.steps =
    s.ended (over_ended job m ready ran over t there registered).may_end in
    let count : length (m.taken t k) ≡ takes_from task (m.begun t) k =
    taken_count task (m.begun t) k (length (m.taken t k)) (ready.graph.tasks t there).ends lt
    looks ((ran.tasks t there).takes k lt) in
    let steps : takes_from task (m.begun t) k ≡ takes_from task span.steps k =
    ap (λ n. takes_from task n k) same in
    let few : length (taken_from (numbers_of job) task span k) ≤ takes_from task span.steps k =
    take_length (takes_from task span.steps k)
    (drop span.offset (get_or (numbers_of job) (get_or task.inputs k 0) [])) in
    prefix_whole (m.taken t k) (taken_from (numbers_of job) task span k)
    (taken_begin job m t k ready ran there lt) (omega arith)

pub sinks_whole : (job : Job) (m : Moment) (t : ℕ) → IsReadyAt job m → HasRun job m → IsOver job m
    → t < length job.graph.tasks
    → (task_at job.graph t).kind ≡ Sink
    → m.taken t 0 ≡ taken_from (numbers_of job) (task_at job.graph t) (span_in job t) 0
sinks_whole job m t ready ran over there sink =
    by (m.number (input_at (task_at job.graph t) 0) t) refl (cases_Bool ((span_in job t).live))
  where
    lt : 0 < length (task_at job.graph t).inputs
    lt = (let both : (length (task_at job.graph t).inputs ≡ 1)
        × (length (task_at job.graph t).outputs ≡ 0) =
        rw sink at (ready.graph.tasks t there).ends in
        let one : length (task_at job.graph t).inputs ≡ 1 = both.0 in omega arith)

    by : (o : Option ℕ) → m.number (input_at (task_at job.graph t) 0) t ≡ o
        → ((span_in job t).live ≡ true) ⊎ ((span_in job t).live ≡ false)
        → m.taken t 0 ≡ taken_from (numbers_of job) (task_at job.graph t) (span_in job t) 0
    by (Some n) some l =
        taken_whole job m t 0 ready ran over there lt (rw sink tt)
        (input_at (task_at job.graph t) 0, n, some)
    by None none (inl live) =
        absurd (came_in job m ready ran over (suc t) t 0 (omega arith) there lt none live)
    by None none (inr dead) =
        let nothing : m.taken t 0 ≡ [] = (rw none at ((ran.tasks t there).inputs 0 lt)).0 in
        let no_step : (span_in job t).steps ≡ 0 =
        dead_span job t (length (samples_at job t)) (task_at job.graph t) _
        (spans_all job t ready.graph there) dead in
        let takes : takes_from (task_at job.graph t) (span_in job t).steps 0 ≡ 0 =
        (let one : takes_from (task_at job.graph t) (span_in job t).steps 0
        ≡ (span_in job t).steps = rw sink refl in one ∙ no_step) in
        nothing ∙ ap (λ n.
        take n (drop (span_in job t).offset
        (get_or (numbers_of job) (get_or (task_at job.graph t).inputs 0 0) []))) (sym takes)

-- ---- the lines of the sinks

-- two functions that agree where the test holds give the same of a list that it filters
pub map-filtered : {Y : Type 0} (f g : ℕ → Y) (test : ℕ → Bool) (a n : ℕ)
    → ((t : ℕ) → t < a + n → test t ≡ true → f t ≡ g t)
    → map f (filter test (range_with_len a n)) ≡ map g (filter test (range_with_len a n))
map-filtered f g test a zero same = refl
map-filtered f g test a (suc n) same =
    let rest : map f (filter test (range_with_len (a + 1) n))
    ≡ map g (filter test (range_with_len (a + 1) n)) =
    map-filtered f g test (a + 1) n (λ t lt e. same t (omega arith) e) in
    elim (test a) as (λ b. (test a ≡ b)
    → map f (cond b (a ∷ filter test (range_with_len (a + 1) n))
    (filter test (range_with_len (a + 1) n)))
    ≡ map g (cond b (a ∷ filter test (range_with_len (a + 1) n))
    (filter test (range_with_len (a + 1) n)))) [
      | true ↦ λ e.
          ap (λ y. y ∷ map f (filter test (range_with_len (a + 1) n))) (same a (omega arith) e)
          ∙ ap (λ ys. g a ∷ ys) rest
      | false ↦ λ e. rest
    ] refl

-- the lines of a job are what its sinks have taken
pub lines_are : (job : Job) (m : Moment) → IsReadyAt job m → HasRun job m → IsOver job m
    → lines_of job ≡ map (λ t. (t, m.taken t 0)) (sinks_of job)
lines_are job m ready ran over =
    map-filtered (sink_over job (schedule_of job) (numbers_of job)) (λ t. (t, m.taken t 0))
    (is_sink_at job) 0 (length job.graph.tasks)
    (λ t lt e. (let there : t < length job.graph.tasks = omega arith in
    ap (λ values. (t, values))
    (sym (sinks_whole job m t ready ran over there (sink_kind (task_at job.graph t).kind e)))))

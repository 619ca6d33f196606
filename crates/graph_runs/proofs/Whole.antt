-- Every phaser of a run composes its list, and every registered task stands in its span.
use Rattle.std.proofs.Common.{◌≡◌, ℕ, zero, suc, ◌+◌, ◌<◌, ◌≤◌, Bool, true, false, ◌&&◌, cond, leb, List, Option, Some, None, ℤ, length, refl, sym, ap, subst, ◌∙◌, arith, inl, inr}
use Rattle.std.specs.Prelude.{max}
use Rattle.std.specs.List.{range_with_len}
use Rattle.std.proofs.lemmas.Bool.{and_parts, leb-true}
use Rattle.std.proofs.lemmas.List.{length-map}
use Rattle.std.proofs.lemmas.Option.{same_Some}
use Rattle.phase_history.specs.Histories.{done_of, phases_signalled, has_dropped}
use Rattle.phase_history.specs.Sent.{sent_by}
use Rattle.phase_history.proofs.Sendings.{length-sent_by}
use Rattle.phase_history.proofs.Signallers.{holds_open, all_dropped}
use Rattle.graph_base.specs.declared.line.Parent.{Parent}
use Rattle.graph_base.specs.Graphs.{Task, task_at}
use Rattle.graph_base.specs.TaskLines.{IsGraph, IsTaskLine, IsParent, has_children}
use Rattle.stream_lists.specs.declared.span.Span.{Span}
use Rattle.stream_lists.specs.Jobs.{Job, samples_at, start_at, index_in}
use Rattle.stream_lists.specs.Spans.{signalled_by, spans_of, lengths_of, span_at, span_in, offset_of, puts_on, LooksAt, schedule_of}
use Rattle.stream_lists.specs.Lists.{numbers_of, output_on}
use Rattle.stream_lists.proofs.Ordered.{looks-first, looked_above, place-at, parent_signals}
use Rattle.stream_lists.proofs.SpansAbove.{parent-is, spans_all}
use Rattle.graph_runs.specs.Moments.{one, Moment, input_at, made_now, taken_now, limits_at, TaskRan, HasEnded, OnOutput, PutOn, OnPhaser, IsChild, OnLine, HasNotPassed, Joined, IsRegistered, HasRun, IsOver, OnInput}
use Rattle.graph_runs.specs.Settled.{Stands, PutsOut}
use Rattle.graph_runs.proofs.Composed.{IsAwaited, Composes, HasRead}
use Rattle.graph_runs.proofs.Entries.{prefix_length}
use Rattle.graph_runs.proofs.OnLines.{on_phaser}
use Rattle.graph_runs.proofs.OutputLists.{length_made, puts-few}
use Rattle.graph_runs.proofs.Tasks.{registered_span, has_read_on, stands_from, puts_from, now_counts}
use Rattle.graph_runs.proofs.Phasers.{At, EachAt, all_agree, composes_from}
use Rattle.graph_runs.proofs.Anys.{in_range, are_gathered}
use Rattle.graph_runs.proofs.Started.{IsReadyAt}

-- ---- tasks, where the phasers that they read compose their lists

-- what a task's parent inherits from it
abbrev pub Inherits : Job → (ℕ → Type 0) → Type 0
Inherits job Q =
    (t : ℕ) (u : Parent) → t < length job.graph.tasks → (task_at job.graph t).parent ≡ Some u → Q t
    → Q u.task

-- what its steps look at composes its list
abbrev pub Reads : Job → Moment → (ℕ → Type 0) → Type 0
Reads job m Q =
    (t k : ℕ) → t < length job.graph.tasks → Q t → k < length (task_at job.graph t).inputs
    → LooksAt (task_at job.graph t).kind 0 k → Composes job m (input_at (task_at job.graph t) k)

pub joined_of : (job : Job) (m : Moment) (t : ℕ) → TaskRan job m t → IsRegistered m t
    → Joined m t (task_at job.graph t).joins_now (task_at job.graph t).parent
joined_of job m t ran r = ran.joined r.0 r.1 r.2

pub parent_registered : (m : Moment) (t : ℕ) (now : Bool) (parent : Option Parent) (u : Parent)
    → Joined m t now parent → parent ≡ Some u → IsRegistered m u.task
parent_registered m t now None u j e = absurd (cc)
parent_registered m t now (Some v) u j e =
    let same : v ≡ u = same_Some _ _ e in rw same at j.2

pub parent_of : (job : Job) (t : ℕ) (u : Parent) → IsGraph job.graph → t < length job.graph.tasks
    → (task_at job.graph t).parent ≡ Some u
    → IsParent job.graph t (task_at job.graph t) u
parent_of job t u is there e = parent-is job.graph t (task_at job.graph t) u (is.tasks t there) e

-- what an input whose phaser composes its list has given
pub reads_input : (job : Job) (m : Moment) (t k : ℕ) → IsGraph job.graph → HasRun job m
    → t < length job.graph.tasks → k < length (task_at job.graph t).inputs
    → Composes job m (input_at (task_at job.graph t) k) → HasRead job m t k
reads_input job m t k is ran there lt c =
    let task = task_at job.graph t in
    let px : input_at task k < length job.graph.phasers = (is.tasks t there).inputs k 0 lt in
    has_read_on job m t k (m.number (input_at task k) t) is px (ran.phasers (input_at task k) px) c
    ((ran.tasks t there).inputs k lt)

pub stands : (job : Job) (m : Moment) → IsReadyAt job m → HasRun job m → (Q : ℕ → Type 0)
    → Inherits job Q → Reads job m Q
    → (fuel t : ℕ) → t < fuel → t < length job.graph.tasks → Q t → IsRegistered m t → Stands job m t
stands job m ready ran Q inherits reads zero t below there q registered = absurd (omega arith)
stands job m ready ran Q inherits reads (suc fuel) t below there q registered =
    let r : TaskRan job m t = ran.tasks t there in
    let task = task_at job.graph t in
    let joined : Joined m t task.joins_now task.parent = joined_of job m t r registered in
    let parents : (u : Parent) → task.parent ≡ Some u → Stands job m u.task = λ u e. (
    let p : IsParent job.graph t task u = parent_of job t u ready.graph there e in
    let above : u.task < t = p.above in
    stands job m ready ran Q inherits reads fuel u.task (omega arith) (omega arith)
    (inherits t u there e q) (parent_registered m t task.joins_now task.parent u joined e)) in
    let span_is =
    registered_span job m t (length (samples_at job t)) task (start_at job t) task.joins_now
    task.parent (spans_all job t ready.graph there) (ready.starts t there) joined parents in
    stands_from job m t ready.graph there r span_is
    (λ k lt looks.
    (let c = reads t k there q lt looks in
    (reads_input job m t k ready.graph ran there lt c, c)))

-- ---- children that are not there yet

-- a live child's parent is live and comes to its boundary, where the child begins, or later
pub record FromParent (job : Job) (t : ℕ) (u : Parent) : Type 0 where
  pub live : (span_in job u.task).live ≡ true
  pub comes : u.at ≤ (span_in job u.task).steps
  pub at : (span_in job u.task).offset + u.at ≤ (span_in job t).offset

pub from_parent : (job : Job) (t n : ℕ) (task : Task) (start : ℕ) (u : Parent)
    → span_in job t ≡ span_at task n (lengths_of job) (offset_of (spans_of job) start (Some u))
    → (span_in job t).live ≡ true → FromParent job t u
from_parent job t n task start u is live =
    let span = span_in job u.task in
    let test = span.live && leb u.at span.steps in
    elim test as (λ b. (test ≡ b)
    → span_in job t
    ≡ span_at task n (lengths_of job) (cond b (Some (max start (span.offset + u.at))) None)
    → FromParent job t u) [
      | true ↦ λ e s.
          let both = and_parts span.live (leb u.at span.steps) e in
          record {
            live =
                both.0;
            comes = leb-true u.at span.steps both.1;
            at = (let begins : (span_in job t).offset ≡ max start (span.offset + u.at) =
                ap (λ (x : Span). x.offset) s in omega arith);
          }
      | false ↦ λ e s.
          let dead : (span_in job t).live ≡ false = ap (λ (x : Span). x.live) s in
          absurd (let no : true ≡ false = sym live ∙ dead in cc)
    ] refl is

-- a task that may have children puts no more than it has begun steps
pub puts_short : (job : Job) (m : Moment) (t j : ℕ) → IsTaskLine job.graph t (task_at job.graph t)
    → TaskRan job m t
    → has_children (task_at job.graph t).kind ≡ true
    → j < length (signalled_by (task_at job.graph t))
    → length (m.put t j) ≤ m.begun t
puts_short job m t j line ran plain lt =
    let task = task_at job.graph t in
    let low : length (m.put t j) ≤ length (made_now job m t j) =
    prefix_length (m.put t j) (made_now job m t j) (ran.puts j lt) in
    let made : length (made_now job m t j) ≡ puts_on task (m.begun t) j =
    length_made (samples_at job t) task (taken_now m task t) (m.begun t) j line.ends lt ran.samples
    (λ k below looks. now_counts job m t line ran k below looks) in
    omega (arith, puts-few task (m.begun t) j line.ends plain)

-- some other holds its first phase
pub awaited : (job : Job) (m : Moment) → IsReadyAt job m → HasRun job m → (p : ℕ)
    → p < length job.graph.phasers
    → ((t j : ℕ) → t < length job.graph.tasks
    → index_in (signalled_by (task_at job.graph t)) p ≡ Some j → IsRegistered m t → Stands job m t)
    → (fuel t j : ℕ) → t < fuel → t < length job.graph.tasks
    → index_in (signalled_by (task_at job.graph t)) p ≡ Some j → m.number p t ≡ None
    → (span_in job t).live ≡ true → (out : List ℤ)
    → IsAwaited (m.history p) ((span_in job t).offset, out)
awaited job m ready ran p pp standing zero t j below there place absent live out =
    absurd (omega arith)
awaited job m ready ran p pp standing (suc fuel) t j below there place absent live out =
    let r : TaskRan job m t = ran.tasks t there in
    let on : PutOn job m t j p (m.number p t) = rw place at (r.outputs p pp) in
    let gone : IsChild (task_at job.graph t).parent = rw absent at on in
    by ((task_at job.graph t).parent) refl gone (spans_all job t ready.graph there)
    (λ u e n live_u.
    (let ip : IsParent job.graph t (task_at job.graph t) u =
    parent_of job t u ready.graph there e in
    let above : u.task < t = ip.above in
    let i = parent_signals job.graph t (task_at job.graph t) u p j ip place in
    awaited job m ready ran p pp standing fuel u.task i.0 (omega arith) (omega arith) i.1 n live_u
    out))
  where
    by : (parent : Option Parent) → (task_at job.graph t).parent ≡ parent → IsChild parent
        → span_in job t
        ≡ span_at (task_at job.graph t) (length (samples_at job t)) (lengths_of job)
        (offset_of (spans_of job) (start_at job t) (task_at job.graph t).parent)
        → ((u : Parent) → (task_at job.graph t).parent ≡ Some u → m.number p u.task ≡ None
        → (span_in job u.task).live ≡ true
        → IsAwaited (m.history p) ((span_in job u.task).offset, out))
        → IsAwaited (m.history p) ((span_in job t).offset, out)
    by None e gone is up = absurd gone
    by (Some u) e gone is up =
        let ip : IsParent job.graph t (task_at job.graph t) u =
        parent_of job t u ready.graph there e in
        let above : u.task < t = ip.above in
        let fp : FromParent job t u =
        from_parent job t (length (samples_at job t)) (task_at job.graph t) (start_at job t) u
        (is ∙ ap (λ o.
        span_at (task_at job.graph t) (length (samples_at job t)) (lengths_of job)
        (offset_of (spans_of job) (start_at job t) o)) e) live in
        let i = parent_signals job.graph t (task_at job.graph t) u p j ip place in
        let there_u : u.task < length job.graph.tasks = omega arith in
        number_case (m.number p u.task) refl fp i.0 i.1 there_u (ran.tasks u.task there_u)
        (λ lt. puts_short job m u.task i.0 (ready.graph.tasks u.task there_u)
        (ran.tasks u.task there_u) ip.kind lt) (λ n. up u e n fp.live)
      where
        number_case : (o : Option ℕ) → m.number p u.task ≡ o → FromParent job t u → (i : ℕ)
            → index_in (signalled_by (task_at job.graph u.task)) p ≡ Some i
            → u.task < length job.graph.tasks → TaskRan job m u.task
            → (i < length (signalled_by (task_at job.graph u.task))
            → length (m.put u.task i) ≤ m.begun u.task)
            → (m.number p u.task ≡ None
            → IsAwaited (m.history p) ((span_in job u.task).offset, out))
            → IsAwaited (m.history p) ((span_in job t).offset, out)
        number_case None none fp i at there_u ru short up =
            let rec : IsAwaited (m.history p) ((span_in job u.task).offset, out) = up none in
            record { later = omega (arith, rec.later, fp.at); held = rec.held }
        number_case (Some n) some fp i at there_u ru short up =
            let st : Stands job m u.task = standing u.task i there_u at (p, n, some) in
            let P : Option ℕ → Type 0 = λ o. OnPhaser job m u.task p o in
            let on : OnOutput job m u.task i p n = rw some at (subst P at (ru.outputs p pp)) in
            drop_case (has_dropped (m.history p) n) refl
            (ru.children t p n u there e refl some absent (inl (j, place))) fp i
            (short (place-at (signalled_by (task_at job.graph u.task)) p i at).0) st on
          where
            drop_case : (b : Bool) → has_dropped (m.history p) n ≡ b → HasNotPassed m p n u
                → FromParent job t u → (i : ℕ) → length (m.put u.task i) ≤ m.begun u.task
                → Stands job m u.task → OnOutput job m u.task i p n
                → IsAwaited (m.history p) ((span_in job t).offset, out)
            drop_case true left a fp i short st on =
                absurd (omega (arith, st.ended (on.left left).may_end, a.ended left, fp.comes))
            drop_case false stays a fp i short st on =
                let h = m.history p in
                let legal = (ran.phasers p pp).legal in
                let held : done_of h ≤ on.start.signal_phase + phases_signalled h n =
                holds_open (limits_at job p) h n on.start legal on.start_is on.signals stays in
                let counted : length (sent_by h n) ≡ phases_signalled h n = length-sent_by h n in
                let put_count : length (sent_by h n) ≡ length (m.put u.task i) =
                ap length on.sent ∙ length-map (m.put u.task i) one in
                let early : m.begun u.task ≤ u.at = a.early in
                let at_u : on.start.signal_phase ≡ m.offset u.task = on.at in
                let span_u : (span_in job u.task).offset ≡ m.offset u.task = st.offset in
                let begins : (span_in job u.task).offset + u.at ≤ (span_in job t).offset = fp.at in
                record {
                  later = omega arith;
                  held = λ quiet.
                      (let gone : has_dropped h n ≡ true =
                      all_dropped (limits_at job p) h n on.start legal quiet on.start_is
                      on.signals in
                      let no : true ≡ false = sym gone ∙ stays in cc);
                }

-- ---- all phasers, in the order of their lines

-- one phaser, where those above compose their lists
compose_one : (job : Job) (m : Moment) → IsReadyAt job m → HasRun job m → (p : ℕ)
    → p < length job.graph.phasers
    → ((x : ℕ) → x < p → Composes job m x) → Composes job m p
compose_one job m ready ran p pp above =
    composes_from job m p ready.graph pp (ran.phasers p pp)
    (are_gathered job m p ready pp (ran.phasers p pp)
    (all_agree job m p (range_with_len 0 (length job.graph.tasks)) each)) each
  where
    -- the inputs that output number j looks at
    looked : (t j : ℕ) → t < length job.graph.tasks
        → index_in (signalled_by (task_at job.graph t)) p ≡ Some j
        → (k : ℕ) → k < length (task_at job.graph t).inputs → LooksAt (task_at job.graph t).kind j k
        → Composes job m (input_at (task_at job.graph t) k)
    looked t j there place k lt looks =
        above (input_at (task_at job.graph t) k)
        (looked_above job.graph t (task_at job.graph t) j k p (ready.graph.tasks t there) place
        lt looks)

    standing : (t j : ℕ) → t < length job.graph.tasks
        → index_in (signalled_by (task_at job.graph t)) p ≡ Some j → IsRegistered m t
        → Stands job m t
    standing t j there place registered =
        stands job m ready ran
        (λ t. (j : ℕ) × (index_in (signalled_by (task_at job.graph t)) p ≡ Some j))
        (λ t u there e q.
        parent_signals job.graph t (task_at job.graph t) u p q.0
        (parent_of job t u ready.graph there e) q.1)
        (λ t k there q lt looks.
        looked t q.0 there q.1 k lt (looks-first (task_at job.graph t).kind q.0 k looks))
        (suc t) t (omega arith) there (j, place) registered

    at : (t : ℕ) → t < length job.graph.tasks → (place : Option ℕ)
        → index_in (signalled_by (task_at job.graph t)) p ≡ place
        → (o : Option ℕ) → m.number p t ≡ o → At job m p t place o
    at t there None is None none = tt
    at t there None is (Some n) some =
        rw some at (rw is at ((ran.tasks t there).outputs p pp))
    at t there (Some j) is None none = λ live.
        awaited job m ready ran p pp standing (suc t) t j (omega arith) there is none live
        (output_on job (schedule_of job) (numbers_of job) t j)
    at t there (Some j) is (Some n) some =
        let st : Stands job m t = standing t j there is (p, n, some) in (
          rw some at (rw is at ((ran.tasks t there).outputs p pp)),
          st,
          puts_from job m t j ready.graph there (ran.tasks t there) st
              (place-at (signalled_by (task_at job.graph t)) p j is).0
              (λ k lt looks.
              reads_input job m t k ready.graph ran there lt (looked t j there is k lt looks)),
        )

    each : EachAt job m p (range_with_len 0 (length job.graph.tasks))
    each t e =
        let low : t < 0 + length job.graph.tasks = in_range t 0 (length job.graph.tasks) e in
        at t (omega arith) (index_in (signalled_by (task_at job.graph t)) p) refl (m.number p t)
        refl

-- every phaser composes its list
pub compose_all : (job : Job) (m : Moment) → IsReadyAt job m → HasRun job m → (fuel p : ℕ)
    → p < fuel
    → p < length job.graph.phasers → Composes job m p
compose_all job m ready ran zero p below pp = absurd (omega arith)
compose_all job m ready ran (suc fuel) p below pp =
    compose_one job m ready ran p pp
    (λ x less. compose_all job m ready ran fuel x (omega arith) (omega arith))

pub composes : (job : Job) (m : Moment) → IsReadyAt job m → HasRun job m → (p : ℕ)
    → p < length job.graph.phasers → Composes job m p
composes job m ready ran p pp = compose_all job m ready ran (suc p) p (omega arith) pp

-- what a task has taken, from each input
pub reads_all : (job : Job) (m : Moment) → IsReadyAt job m → HasRun job m → (t k : ℕ)
    → t < length job.graph.tasks → k < length (task_at job.graph t).inputs → HasRead job m t k
reads_all job m ready ran t k there lt =
    reads_input job m t k ready.graph ran there lt
    (composes job m ready ran (input_at (task_at job.graph t) k)
    ((ready.graph.tasks t there).inputs k 0 lt))

-- every registered task stands in its span
pub stands_all : (job : Job) (m : Moment) → IsReadyAt job m → HasRun job m → (t : ℕ)
    → t < length job.graph.tasks → IsRegistered m t → Stands job m t
stands_all job m ready ran t there registered =
    stands job m ready ran (λ t. Unit {0}) (λ t u there e q. tt)
    (λ t k there q lt looks.
    composes job m ready ran (input_at (task_at job.graph t) k)
    ((ready.graph.tasks t there).inputs k 0 lt))
    (suc t) t (omega arith) there tt registered

-- and puts out its lists
pub puts_all : (job : Job) (m : Moment) → IsReadyAt job m → HasRun job m → (t j : ℕ)
    → t < length job.graph.tasks → IsRegistered m t
    → j < length (signalled_by (task_at job.graph t)) → PutsOut job m t j
puts_all job m ready ran t j there registered lt =
    puts_from job m t j ready.graph there (ran.tasks t there)
    (stands_all job m ready ran t there registered) lt
    (λ k below looks. reads_all job m ready ran t k there below)

-- ---- where the run is over

-- every registered task has ended
pub over_ended : (job : Job) (m : Moment) → IsReadyAt job m → HasRun job m → IsOver job m → (t : ℕ)
    → t < length job.graph.tasks → IsRegistered m t → HasEnded job m t
over_ended job m ready ran over t there r = by ((ran.tasks t there).lines r.0 r.1 r.2)
  where
    gone : has_dropped (m.history r.0) r.1 ≡ true
    gone = over.gone r.0 t r.1 there r.2

    by : OnLine (task_at job.graph t) r.0 → HasEnded job m t
    by (inl out) =
        let pp : r.0 < length job.graph.phasers = on_phaser job t r.0 ready.graph there (inl out) in
        let on : OnOutput job m t out.0 r.0 r.1 =
        rw r.2 at (rw out.1 at ((ran.tasks t there).outputs r.0 pp)) in
        on.left gone
    by (inr into) =
        let on : OnInput job m t into.0 r.0 r.1 =
        rw r.2 at (rw into.2 at ((ran.tasks t there).inputs into.0 into.1)) in
        on.left gone

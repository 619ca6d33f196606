-- The phases at which the spans of sinks that join now begin, over a job that starts them where
-- they do at a moment at which the run is over.
use Rattle.std.proofs.Common.{◌≡◌, ℕ, suc, ◌<◌, ◌≤◌, Bool, true, false, Option, Some, None, length, get_or, refl, sym, ap, subst, ◌∙◌, arith}
use Rattle.std.proofs.lemmas.Option.{same_Some}
use Rattle.phase_history.specs.Laws.{HasReceivedFrom}
use Rattle.phase_history.proofs.Left.{received_law}
use Rattle.graph_base.specs.declared.line.Kind.{Kind}
use Rattle.graph_base.specs.Graphs.{task_at}
use Rattle.graph_base.specs.TaskLines.{IsGraph, HasEnds}
use Rattle.stream_lists.specs.Jobs.{Job}
use Rattle.stream_lists.specs.Spans.{lengths_of, span_in}
use Rattle.stream_lists.specs.Lists.{start_in}
use Rattle.graph_runs.specs.Moments.{Moment, HasRun, IsOver, OnInput, input_at, limits_at, value_at}
use Rattle.graph_runs.specs.Settled.{Stands}
use Rattle.graph_runs.proofs.Results.{came_in}
use Rattle.graph_runs.proofs.Started.{IsReadyAt}
use Rattle.graph_runs.proofs.Whole.{composes, stands_all}

-- a task that joins now has an input, as a sink
pub has_input : (job : Job) (t : ℕ) → IsGraph job.graph → t < length job.graph.tasks
    → (task_at job.graph t).joins_now ≡ true → 0 < length (task_at job.graph t).inputs
has_input job t is there now =
    let line = is.tasks t there in
    let both : (length (task_at job.graph t).inputs ≡ 1)
    × (length (task_at job.graph t).outputs ≡ 0) = subst (λ (kind : Kind). HasEnds kind (length
    (task_at job.graph t).inputs) (length (task_at job.graph t).outputs)) (line.now now).0 line.ends
    in
    omega (arith, both.0)

-- a task that does not join now has no start
pub start_of_others : (job : Job) (t : ℕ) → (task_at job.graph t).joins_now ≡ false
    → start_in job t ≡ None
start_of_others job t stays = rw stays refl

-- nor has one that is not live
start_of_dead : (job : Job) (t : ℕ) → (span_in job t).live ≡ false → start_in job t ≡ None
start_of_dead job t dead = by (task_at job.graph t).joins_now refl
  where
    by : (b : Bool) → (task_at job.graph t).joins_now ≡ b → start_in job t ≡ None
    by false e = rw e refl
    by true e = rw (e, dead) refl

-- a registered task that joins now has its offset for a start
pub start_registered : (job : Job) (m : Moment) (t : ℕ) → (task_at job.graph t).joins_now ≡ true
    → Stands job m t → start_in job t ≡ Some (m.offset t)
start_registered job m t now s = rw (now, s.live) (ap (λ n. Some n) s.offset)

-- and one that is registered nowhere when the run is over is not live
pub start_absent : (job : Job) (m : Moment) (t : ℕ) → IsReadyAt job m → HasRun job m
    → IsOver job m → t < length job.graph.tasks → (task_at job.graph t).joins_now ≡ true
    → ((p : ℕ) → m.number p t ≡ None) → start_in job t ≡ None
start_absent job m t ready ran over there now nowhere = by (span_in job t).live refl
  where
    by : (b : Bool) → (span_in job t).live ≡ b → start_in job t ≡ None
    by false dead = start_of_dead job t dead
    by true live =
        absurd (came_in job m ready ran over (suc t) t 0 (omega arith) there
        (has_input job t ready.graph there now)
        (nowhere (input_at (task_at job.graph t) 0)) live)

-- a waiter's start is at most the length of its phaser's list
start_within : (job : Job) (m : Moment) (t k n : ℕ) → IsReadyAt job m → HasRun job m
    → t < length job.graph.tasks → k < length (task_at job.graph t).inputs
    → OnInput job m t k (input_at (task_at job.graph t) k) n
    → m.offset t ≤ get_or (lengths_of job) (input_at (task_at job.graph t) k) 0
start_within job m t k n ready ran there lt on =
    let p = input_at (task_at job.graph t) k in
    let h = m.history p in
    let pp : p < length job.graph.phasers = (ready.graph.tasks t there).inputs k 0 lt in
    let got : HasReceivedFrom (value_at job p) h n on.start =
    received_law (value_at job p) (limits_at job p) h n on.start (ran.phasers p pp).legal
    on.start_is on.waits in
    omega (arith, got.complete, on.at, (composes job m ready ran p pp).within)

-- a start is at most the length of its phaser's list, one phase past its last, once its task is
-- registered there
pub start_there : (job : Job) (m : Moment) (t n start : ℕ) → IsReadyAt job m → HasRun job m
    → t < length job.graph.tasks → m.number (input_at (task_at job.graph t) 0) t ≡ Some n
    → start_in job t ≡ Some start
    → start ≤ get_or (lengths_of job) (input_at (task_at job.graph t) 0) 0
start_there job m t n start ready ran there some is = by (task_at job.graph t).joins_now refl
  where
    by : (now : Bool) → (task_at job.graph t).joins_now ≡ now
        → start ≤ get_or (lengths_of job) (input_at (task_at job.graph t) 0) 0
    by false stays =
        absurd (let no : None ≡ Some start = sym (start_of_others job t stays) ∙ is in cc)
    by true now =
        let lt = has_input job t ready.graph there now in
        let on : OnInput job m t 0 (input_at (task_at job.graph t) 0) n =
        rw some at ((ran.tasks t there).inputs 0 lt) in
        let s : Stands job m t =
        stands_all job m ready ran t there (input_at (task_at job.graph t) 0, n, some) in
        let same : m.offset t ≡ start =
        same_Some (m.offset t) start (sym (start_registered job m t now s) ∙ is) in
        omega (arith, start_within job m t 0 n ready ran there lt on)

-- and where the run is over
pub start_in_time : (job : Job) (m : Moment) (t start : ℕ) → IsReadyAt job m → HasRun job m
    → IsOver job m → t < length job.graph.tasks → start_in job t ≡ Some start
    → start ≤ get_or (lengths_of job) (input_at (task_at job.graph t) 0) 0
start_in_time job m t start ready ran over there is =
    by (task_at job.graph t).joins_now (span_in job t).live refl refl
  where
    registered : (task_at job.graph t).joins_now ≡ true → (span_in job t).live ≡ true
        → (o : Option ℕ) → m.number (input_at (task_at job.graph t) 0) t ≡ o
        → start ≤ get_or (lengths_of job) (input_at (task_at job.graph t) 0) 0
    registered now live None none =
        absurd (came_in job m ready ran over (suc t) t 0 (omega arith) there
        (has_input job t ready.graph there now) none live)
    registered now live (Some n) some = start_there job m t n start ready ran there some is

    by : (b c : Bool) → (task_at job.graph t).joins_now ≡ b → (span_in job t).live ≡ c
        → start ≤ get_or (lengths_of job) (input_at (task_at job.graph t) 0) 0
    by false c stays e =
        absurd (let no : None ≡ Some start = sym (start_of_others job t stays) ∙ is in cc)
    by true false now dead =
        absurd (let no : None ≡ Some start = sym (start_of_dead job t dead) ∙ is in cc)
    by true true now live =
        registered now live (m.number (input_at (task_at job.graph t) 0) t) refl

-- Samples that come in pieces: what of a run stays when a job gets other samples behind those that
-- its sources have signalled, and what a source does that may still get some.
use Rattle.std.specs.Prelude.{◌≡◌, ℕ, ℤ, ◌<◌, ◌≤◌, ◌&&◌, Bool, not, nat_le, List, length, take, true, false, Some}
use mathlib.Core.List.{IsPrefix}
use Rattle.phase_history.specs.Histories.{has_dropped}
use Rattle.graph_base.specs.Graphs.{is_source, task_at}
use Rattle.graph_base.specs.declared.line.Kind.TheVariants.{Source}
use Rattle.graph_runs.specs.Moments.{Moment, MayStop}
use Rattle.graph_runs.specs.Nexts as nexts
use Rattle.graph_runs.specs.Nexts.{Next, is_cut, next_of}
use Rattle.graph_runs.specs.TaskEvents as events
use Rattle.graph_runs.specs.TaskEvents.{TaskEvent}
use Rattle.stream_lists.specs.Jobs.{Job, samples_at, samples_in}

-- ---- what a run has of other samples

-- with these samples source t may have done what it has done at a moment: it has signalled their
-- first ones, and where it has left a phaser it has come to their end, or to its `until`
pub record MayHaveRun (job : Job) (m : Moment) (samples : List (List ℤ)) (t : ℕ) : Type 0 where
  pub enough : m.begun t ≤ length (samples_in job samples t)
  pub same : take (m.begun t) (samples_in job samples t) ≡ take (m.begun t) (samples_at job t)
  pub ended : (p n : ℕ) → p < length job.graph.phasers → m.number p t ≡ Some n
      → has_dropped (m.history p) n ≡ true
      → MayStop m (task_at job.graph t) t (length (samples_in job samples t))

-- the run of the job up to a moment is one of the job with these samples, too
abbrev pub Continues : Job → Moment → List (List ℤ) → Type 0
Continues job m samples = (t : ℕ) → t < length job.graph.tasks
    → (task_at job.graph t).kind ≡ Source → MayHaveRun job m samples t

-- ---- feeds

-- these samples are the job's and more behind them, but for the sources that have ended
pub record IsFed (job : Job) (ended : ℕ → Bool) (samples : List (List ℤ)) : Type 0 where
  pub begins : (t : ℕ) → t < length job.graph.tasks → (task_at job.graph t).kind ≡ Source
      → IsPrefix (samples_at job t) (samples_in job samples t)
  pub stays : (t : ℕ) → t < length job.graph.tasks → (task_at job.graph t).kind ≡ Source
      → ended t ≡ true → samples_in job samples t ≡ samples_at job t

-- no source has left a phaser but at its `until`, where its samples have not ended
abbrev pub IsOpenAt : Job → (ℕ → Bool) → Moment → Type 0
IsOpenAt job ended m = (t p n : ℕ) → t < length job.graph.tasks → p < length job.graph.phasers
    → (task_at job.graph t).kind ≡ Source → ended t ≡ false → m.number p t ≡ Some n
    → has_dropped (m.history p) n ≡ true → (task_at job.graph t).until ≡ Some (m.begun t)

-- ---- hunger

-- a source has signalled all samples that it has, and its `until` would allow more
abbrev pub is_starved : Job → Moment → ℕ → Bool
is_starved job m t =
    is_source (task_at job.graph t).kind && not (is_cut (task_at job.graph t).until (m.begun t))
    && nat_le (length (samples_at job t)) (m.begun t)

-- what a source does next that has ended, or is starved, and what another task does
pub data Call : Type 0 where
  hungers : Call
  calls : Next → Call

-- a source whose samples have not ended waits for one where it would leave for want of it
abbrev pub call_of : Job → (ℕ → Bool) → Moment → ℕ → Call
call_of job ended m t = of (next_of job m t) (is_starved job m t && not (ended t))
  where
    of : Next → Bool → Call
    of nexts.leaves true = hungers
    of next starved = calls next

-- a source that may still get samples does not leave for want of one
abbrev pub NotStarved : Job → (ℕ → Bool) → Moment → TaskEvent → Type 0
NotStarved job ended m (events.leave t p n) = ended t ≡ false → is_starved job m t ≡ false
NotStarved job ended m event = Unit {0}

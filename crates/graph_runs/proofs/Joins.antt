-- A moment that is put together of what each task had on its own.
use Rattle.std.proofs.Common.{ℕ, ◌<◌, length}
use Rattle.graph_base.specs.TaskLines.{IsGraph}
use Rattle.stream_lists.specs.Jobs.{Job}
use Rattle.graph_runs.specs.Moments.{Moment, HasRun, PhaserRan, TaskRan}
use Rattle.graph_runs.specs.Moves.{HasGrown, OthersMoved}
use Rattle.graph_runs.proofs.Framed.{task_later}

-- from what each task had on its own
pub joined_ran : (job : Job) (m : Moment) (own : ℕ → Moment) → IsGraph job.graph
    → ((p : ℕ) → p < length job.graph.phasers → PhaserRan job m p)
    → ((t : ℕ) → t < length job.graph.tasks → TaskRan job (own t) t)
    → ((t : ℕ) → t < length job.graph.tasks → HasGrown job (own t) m t)
    → ((t : ℕ) → t < length job.graph.tasks → OthersMoved job (own t) m t) → HasRun job m
joined_ran job m own is phasers ran grown moved = record {
  phasers = phasers;
  tasks = λ t there.
      task_later job (own t) m t is there (grown t there) (moved t there) (ran t there);
}

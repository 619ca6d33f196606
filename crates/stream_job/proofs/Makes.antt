-- What is so of the event that a turn makes.
use Rattle.std.proofs.Common.{◌≡◌, ℕ}
use Rattle.graph_base.specs.TaskLines.{IsGraph}
use Rattle.stream_lists.specs.Jobs.{Job}
use Rattle.graph_runs.specs.Moments.{Moment}
use Rattle.graph_runs.specs.TaskEvents.{TaskEvent, IsNext}
use Rattle.graph_runs.specs.Answers.{makes, turn_up_to}
use Rattle.graph_runs.specs.Reached.{IsReachable}
use Rattle.graph_runs.proofs.Signalling.{Live}
use Rattle.graph_runs.proofs.Turning.{turn_makes_next}
use Rattle.graph_runs.proofs.Whose.{IsInOrder, task_of, made_by}
use Rattle.graph_runs.proofs.InOrder.{OwesFor, event_owes}
use Rattle.graph_runs.specs.NextBlocks.{MaySize}

-- it is the next one of the task, which is live, for the registration that comes next, and owes what
-- it is for
pub record MakesEvent (steps most : ℕ) (job : Job) (m : Moment) (t : ℕ) (event : TaskEvent) : Type 0 where
  pub next : IsNext job m event
  pub live : Live job m t
  pub own : task_of event ≡ t
  pub order : IsInOrder job m event
  pub owes : OwesFor steps most job m event

pub makes_event : {steps most : ℕ} (job : Job) (m : Moment) (t : ℕ) (event : TaskEvent)
    → MaySize job.graph t steps most → IsGraph job.graph
    → IsReachable job m → turn_up_to steps most job m t ≡ makes event → MakesEvent steps most job m t event
makes_event {steps} {most} job m t event sized is reached answer =
    let by = made_by steps most job m t event answer in
    record {
      next = turn_makes_next steps most job m t event sized is reached.ran
          (λ c due. reached.to_come) answer;
      live = by.0;
      own = by.1.own;
      order = by.1.missing;
      owes = event_owes steps most job m t event answer;
    }

-- When the call of a task is blocked, by where the task stands.
use Rattle.std.specs.Prelude.{◌≡◌, ◌<◌, ℕ, ℤ, List, true, length}
use Rattle.phase_accum.specs.Sends.{AreSends}
use Rattle.stream_lists.specs.Jobs.{Job, samples_at, with_samples}
use Rattle.graph_runs.specs.Moments.{Moment}
use Rattle.graph_runs.specs.Nexts.{Next, is_live, next_of}
use Rattle.stream_job.specs.Machines.{IsMachine, IsMachineAt}
use Rattle.stream_job.specs.declared.machine.Machine.{Machine}

-- at each moment of the machine the task is live, and this is what it does next
pub record MakesNext (job : Job) (machine : Machine) (t : ℕ) (next : Next) : Type 0 where
  pub some : IsMachine job machine
  pub there : t < length job.graph.tasks
  pub live : (m : Moment) → IsMachineAt job m machine → is_live job m t ≡ true
  pub is : (m : Moment) → IsMachineAt job m machine → next_of job m t ≡ next
  -- the samples of a source can be sent
  pub sends : AreSends (samples_at job t)

-- with some samples this is what the live task does next
abbrev pub MayMakeNext : Job → Machine → ℕ → Next → Type 0
MayMakeNext job machine t next =
    (s : List (List ℤ)) × MakesNext (with_samples s job) machine t next

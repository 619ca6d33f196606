-- The moments that a world stands for.
use Rattle.std.specs.Prelude.{ℕ, List, Option, Some, None}
use Rattle.std.specs.List.{All}
use Rattle.stream_lists.specs.Jobs.{Job}
use Rattle.stream_lists.specs.Ranges.{Where}
use Rattle.graph_runs.specs.Moments.{Moment, HasAnsweredNone, HasAnsweredNoneBefore, started}
use Rattle.graph_runs.specs.Settled.{IsFaultAt}
use Rattle.stream_job.specs.declared.machine.Machine.{Machine}
use Rattle.stream_job.specs.Machines.{IsMachineAt, IsLineOf, KeepsLines, none_given}
use Rattle.stream_job.specs.Blocking.{AreBlocked}
use Rattle.stream_job.specs.SinkLines.{KeepsBeginnings}

-- a job, the machine that runs it, where a value was out of range, and the tasks that were blocked
-- on each phaser since its last event
pub record WorldState : Type 0 where
  pub job : Job
  pub machine : Machine
  pub met : Option Where
  pub parked : List (List ℕ)

-- a value out of range is a fault of the job, no wait but the last event of a phaser was answered
-- one that is too big, and each sink keeps what it took before
pub record HasMetAt (job : Job) (m : Moment) (at : Where) : Type 0 where
  pub fault : IsFaultAt (started job m) at
  pub last : HasAnsweredNoneBefore job m
  pub lines : KeepsBeginnings job m

-- where none was out of range, no wait was answered one that is too big
abbrev pub HasMet : Job → Moment → Option Where → Type 0
HasMet job m None = HasAnsweredNone job m
HasMet job m (Some at) = HasMetAt job m at

-- the world stands at this moment of its job's run: its machine does, its sinks keep all that they
-- have received and have room for all that they get, the tasks in its lists are blocked there, and
-- it has met what it says
pub record IsWorldAt (world : WorldState) (m : Moment) : Type 0 where
  pub machine : IsMachineAt world.job m world.machine
  pub lines : KeepsLines world.job none_given m world.machine.lines.items
  pub own : All (IsLineOf world.job) world.machine.lines.items
  pub parked : AreBlocked world.job m world.parked
  pub met : HasMet world.job m world.met

-- None of the tasks so far is live.
use Rattle.std.proofs.Common.{◌≡◌, ℕ, ℤ, List, ◌<◌, false}
use Rattle.stream_lists.specs.Jobs.{with_samples}
use Rattle.graph_runs.specs.Moments.{Moment}
use Rattle.graph_runs.specs.Nexts.{is_live}
use Rattle.stream_job.specs.Machines.{IsMachineAt}
use Rattle.stream_job.proofs.machine.Machine.has_live.Given as goal

abbrev pub invariant-loop-t : goal.invariant-loop-t
invariant-loop-t l =
    (s : List (List ℤ)) (m : Moment) → IsMachineAt (with_samples s l.job) m l.self
    → (d : ℕ) → d < l.t → is_live l.job m d ≡ false

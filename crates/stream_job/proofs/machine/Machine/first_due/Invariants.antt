-- None of the children so far is due.
use Rattle.std.proofs.Common.{◌≡◌, ℕ, ℤ, List, ◌<◌, false, get_or}
use Rattle.stream_lists.specs.Jobs.{with_samples}
use Rattle.graph_runs.specs.Moments.{Moment}
use Rattle.graph_runs.specs.Nexts.{is_due}
use Rattle.stream_job.specs.Machines.{IsMachineAt}
use Rattle.stream_job.specs.Plans.{children_of}
use Rattle.stream_job.proofs.machine.Machine.first_due.Given as goal

abbrev pub invariant-loop-c : goal.invariant-loop-c
invariant-loop-c l =
    (s : List (List ℤ)) (m : Moment) → IsMachineAt (with_samples s l.job) m l.self
    → (d : ℕ) → d < l.c-index → is_due l.job m l.t (get_or (children_of l.job l.t) d 0) ≡ false

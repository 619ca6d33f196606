-- The turn of each live task so far would be blocked.
use Rattle.std.proofs.Common.{◌≡◌, ℕ, ◌<◌, true, false, get_or}
use Rattle.graph_runs.specs.Moments.{Moment}
use Rattle.graph_runs.specs.Answers.{is_still}
use Rattle.stream_job.specs.Machines.{IsMachineAt}
use Rattle.stream_job.proofs.machine.Machine.are_still.Given as goal

abbrev pub invariant-loop-t : goal.invariant-loop-t
invariant-loop-t l = (m : Moment) → IsMachineAt l.job m l.self
    → ((t : ℕ) → get_or l.marks t false ≡ true → is_still l.job m t ≡ true)
    → (d : ℕ) → d < l.t → is_still l.job m d ≡ true

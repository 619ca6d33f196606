use Rattle.std.proofs.Common.{◌≢◌, ◌<◌, ℕ}
use Rattle.graph_runs.specs.TaskPlaces.{registration_at}
use Rattle.stream_job.proofs.machine.Machine.number_on.Given as goal

-- none of the registrations before this one is on the phaser
abbrev pub invariant-loop-k : goal.invariant-loop-k
invariant-loop-k l = (i : ℕ) → i < l.k → (registration_at l.job l.t i).phaser ≢ l.p

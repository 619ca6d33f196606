use Rattle.std.proofs.Common.{◌≡◌, drop}
use Rattle.std.specs.Prelude.{◌==◌}
use Rattle.std.specs.List.{find}
use Rattle.graph_runs.specs.Nexts.{registrations_at}
use Rattle.stream_job.proofs.roots.mode_on.Given as goal

-- the registrations before this one are on other phasers
abbrev pub invariant-loop-k : goal.invariant-loop-k
invariant-loop-k l =
    find (λ r. r.phaser == l.p) (registrations_at l.job l.t)
    ≡ find (λ r. r.phaser == l.p) (drop l.k (registrations_at l.job l.t))

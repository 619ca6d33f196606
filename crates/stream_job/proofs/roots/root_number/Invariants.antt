use Rattle.std.proofs.Common.{◌≡◌, ◌≤◌, ◌+◌}
use Rattle.phase_history.specs.Histories.{greatest_used}
use Rattle.graph_runs.specs.Beginnings.{roots_joined}
use Rattle.stream_job.proofs.roots.root_number.Given as goal

-- the number above those of the tasks before this one
abbrev pub invariant-loop-u : goal.invariant-loop-u
invariant-loop-u l =
    (l.number ≡ greatest_used (roots_joined l.job l.p l.u) + 1) × (l.number ≤ l.u + 1)

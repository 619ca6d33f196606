use Rattle.std.proofs.Common.{◌≡◌}
use Rattle.stream_tasks.specs.Openings.{AreFounders}
use Rattle.stream_workers.proofs.opening.open_pool.Given as goal

-- the founders stay, and the tasks so far are there
abbrev pub invariant-loop-t : goal.invariant-loop-t
invariant-loop-t g l = AreFounders g.J.Run.job g.J.Run.spots l.founders × (l.pool ≡ l.t)

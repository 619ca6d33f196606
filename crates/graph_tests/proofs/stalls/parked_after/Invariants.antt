use Rattle.std.proofs.Common.{◌≡◌}
use Rattle.graph_tests.proofs.stalls.parked_after.Given as goal

-- it runs its job
abbrev pub invariant-loop-task : goal.invariant-loop-task
invariant-loop-task l = l.world.job ≡ l.fn.world.job

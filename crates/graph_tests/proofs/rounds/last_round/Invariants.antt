use Rattle.std.proofs.Common.{◌≡◌}
use Rattle.graph_tests.proofs.rounds.last_round.Given as goal

-- it runs its job
abbrev pub invariant-loop : goal.invariant-loop
invariant-loop l = l.world.job ≡ l.fn.world.job

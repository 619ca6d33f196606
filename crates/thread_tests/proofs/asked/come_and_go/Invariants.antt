use Rattle.std.proofs.Common.{◌≡◌}
use Rattle.thread_tests.proofs.asked.come_and_go.Given as goal

-- the founder stays on its phaser
abbrev pub invariant-loop : goal.invariant-loop
invariant-loop g l = l.founder.at ≡ l.fn.founder.at

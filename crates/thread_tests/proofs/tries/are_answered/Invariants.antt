use Rattle.std.specs.Prelude.{◌≡◌}
use Rattle.thread_tests.proofs.tries.are_answered.Given as goal

abbrev pub invariant-loop-call : goal.invariant-loop-call
invariant-loop-call l = l.reg.at ≡ l.fn.reg.at

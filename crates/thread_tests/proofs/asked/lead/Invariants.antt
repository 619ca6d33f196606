use Rattle.std.specs.Prelude.{◌≡◌}
use Rattle.phase_shared.specs.Regs.{phaser_lock}
use Rattle.thread_tests.proofs.asked.lead.Given as goal

abbrev pub invariant-loop : goal.invariant-loop
invariant-loop g l = (l.reg.at ≡ phaser_lock l.phaser) × (l.waiter.at ≡ phaser_lock l.phaser)

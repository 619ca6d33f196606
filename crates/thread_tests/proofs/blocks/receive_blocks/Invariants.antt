use Rattle.std.specs.Prelude.{◌≡◌}
use Rattle.phase_shared.specs.Regs.{phaser_lock}
use Rattle.thread_tests.proofs.blocks.receive_blocks.Given as goal

abbrev pub invariant-loop : goal.invariant-loop
invariant-loop g l = l.reg.at ≡ phaser_lock l.phaser

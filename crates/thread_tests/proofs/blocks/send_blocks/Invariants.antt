use Rattle.std.specs.Prelude.{◌≡◌}
use Rattle.phase_shared.specs.Regs.{phaser_lock}
use Rattle.thread_tests.proofs.blocks.send_blocks.Given as goal

abbrev pub invariant-loop-block : goal.invariant-loop-block
invariant-loop-block g l = record {
  at : l.reg.at ≡ phaser_lock l.phaser;
  none_held : l.reg.held.count ≡ 0;
}

use Rattle.std.specs.Prelude.{◌≡◌}
use Rattle.phase_shared.specs.Regs.{phaser_lock}
use Rattle.two_threads_by_blocks.proofs.send_all.Given as goal

abbrev pub invariant-loop-block : goal.invariant-loop-block
invariant-loop-block g l = (l.reg.at ≡ phaser_lock l.bus) × (l.reg.held.count ≡ 0) × (l.reg.number ≡ 1)

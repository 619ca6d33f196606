use Rattle.std.specs.Prelude.{◌≡◌}
use Rattle.phase_shared.specs.Regs.{phaser_lock}
use Rattle.three_stages.proofs.sends_some.Given as goal

-- it stays on its phaser
abbrev pub invariant-loop-value : goal.invariant-loop-value
invariant-loop-value g l = l.sender.at ≡ phaser_lock l.bus

use Rattle.std.specs.Prelude.{◌≡◌}
use Rattle.phase_shared.specs.Regs.{phaser_lock}
use Rattle.three_stages.proofs.helps.Given as goal

-- it stays on its phaser
abbrev pub invariant-loop : goal.invariant-loop
invariant-loop g l = l.sender.at ≡ phaser_lock l.bus

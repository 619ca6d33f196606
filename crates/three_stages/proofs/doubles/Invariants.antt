use Rattle.std.specs.Prelude.{◌≡◌}
use Rattle.phase_shared.specs.Regs.{phaser_lock}
use Rattle.three_stages.proofs.doubles.Given as goal

-- both stay on their phasers
abbrev pub invariant-loop : goal.invariant-loop
invariant-loop g l = record {
  taker : l.taker.at ≡ phaser_lock l.from;
  sender : l.sender.at ≡ phaser_lock l.to;
}

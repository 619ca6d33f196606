use Rattle.std.proofs.Common.{Some, ap, refl, ◌∙◌}
use Rattle.phase_shared.proofs.phaser.Phaser.make.Goals as goal

-- the founder is a member
pub invariant_of-founder : goal.invariant_of-founder
invariant_of-founder g c = record {
  terms = record { limits = c.args.limits; rule = c.args.rule };
  named = ap (λ p. p.1) c.in_ok-locked.ensures.seat ∙ ap (λ t. Some t) c.in_ok-locked.ensures.terms;
  there = refl;
  station = c.in_ok-locked.ensures.founder;
}

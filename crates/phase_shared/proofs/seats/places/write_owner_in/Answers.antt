use Rattle.std.proofs.Common.{ℕ, sym, subst}
use Rattle.turn_lock.specs.Seats.{turn_number, turn_view, turn_told}
use Rattle.turn_lock.specs.WordSteps.{WritesIn}
use Rattle.phase_shared.specs.LockedPhasers.{locked_terms}
use Rattle.phase_shared.specs.Rule.{HasOneHistory}
use Rattle.phase_shared.proofs.seats.places.write_owner_in.Goals as goal

pub write_in-requires-clause-rule : goal.write_in-requires-clause-rule
write_in-requires-clause-rule g c =
    subst (λ (p : ℕ). WritesIn (HasOneHistory g.A.Accumulate.operation g.K.SignalRule.allows) (locked_terms c.args.phaser.now) (turn_number c.args.turn) (turn_view c.args.turn) (turn_told c.args.turn) p c.args.owner (λ v w. g.E.Plan.goes v w))
    (sym c.owner_place.ensures.value) c.requires.rule

use Rattle.std.proofs.Common.{ℕ, sym, subst}
use Rattle.turn_lock.specs.Seats.{seat_number, seat_view}
use Rattle.turn_lock.specs.WordSteps.{WritesOf}
use Rattle.phase_shared.specs.LockedPhasers.{locked_terms}
use Rattle.phase_shared.specs.Rule.{HasOneHistory}
use Rattle.phase_shared.proofs.seats.places.leave_lane.Goals as goal

pub write-requires-clause-rule : goal.write-requires-clause-rule
write-requires-clause-rule g c =
    subst (λ (p : ℕ). WritesOf (HasOneHistory g.A.Accumulate.operation g.K.SignalRule.allows) (locked_terms c.args.phaser.now) (seat_number c.args.seat) (seat_view c.args.seat) p 0 (λ v w. g.E.Plan.goes v w))
    (sym c.owner_place.ensures.value) c.requires.rule

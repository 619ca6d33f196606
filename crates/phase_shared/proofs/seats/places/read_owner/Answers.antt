use Rattle.std.proofs.Common.{ℕ, sym, subst}
use Rattle.turn_lock.specs.Seats.{seat_number, seat_view}
use Rattle.turn_lock.specs.WordSteps.{ReadsOf}
use Rattle.phase_shared.specs.LockedPhasers.{locked_terms}
use Rattle.phase_shared.specs.Rule.{HasOneHistory}
use Rattle.phase_shared.proofs.seats.places.read_owner.Goals as goal

pub read-requires-clause-rule : goal.read-requires-clause-rule
read-requires-clause-rule g c =
    subst (λ (p : ℕ). ReadsOf (HasOneHistory g.A.Accumulate.operation g.K.SignalRule.allows) (locked_terms c.args.phaser.now) (seat_number c.args.seat) (seat_view c.args.seat) p (λ v r w. g.E.Report.tells v r w))
    (sym c.owner_place.ensures.value) c.requires.rule

use Rattle.turn_lock.specs.Seats.{seat_number, seat_view}
use Rattle.phase_shared.specs.LockedPhasers.{locked_terms}
use Rattle.phase_shared.proofs.WordCalls.{reads_own}
use Rattle.phase_shared.proofs.seats.places.is_own.Goals as goal

pub read_owner-seat-requires-clause-rule : goal.read_owner-seat-requires-clause-rule
read_owner-seat-requires-clause-rule g c =
    let terms = locked_terms c.args.phaser.now in
    reads_own g.A.Accumulate.operation terms.limits (g.K.SignalRule.allows terms.rule) (seat_number c.args.seat) c.args.lane c.args.me
    (seat_view c.args.seat) c.requires.seat.knows c.requires.low

use Rattle.turn_lock.specs.Seats.{seat_number, seat_view}
use Rattle.phase_shared.specs.LockedPhasers.{locked_terms}
use Rattle.phase_shared.proofs.WordCalls.{leaves_own}
use Rattle.phase_shared.proofs.seats.places.give_back.Goals as goal

pub leave_lane-requires-clause-rule : goal.leave_lane-requires-clause-rule
leave_lane-requires-clause-rule g c =
    let terms = locked_terms c.args.phaser.now in
    let seat = c.is_own-seat.result.0 in
    leaves_own g.A.Accumulate.operation terms.limits (g.K.SignalRule.allows terms.rule) (seat_number seat) c.args.lane c.args.me
    (seat_view c.args.seat) (seat_view seat) c.requires.seat.knows (c.is_own-seat.ensures.own c.if-not-is_own.false)

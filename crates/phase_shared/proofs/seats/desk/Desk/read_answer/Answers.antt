use Rattle.turn_lock.specs.Seats.{seat_number, seat_view}
use Rattle.phase_shared.specs.LockedPhasers.{locked_terms}
use Rattle.phase_shared.proofs.AskCalls.{answer_kind, answer_number}
use Rattle.phase_shared.proofs.seats.desk.Desk.read_answer.Goals as goal

pub read-seat-requires-clause-rule : goal.read-seat-requires-clause-rule
read-seat-requires-clause-rule g c =
    let seat = c.args.self.seat in
    let at = locked_terms c.args.self.of.phaser.now in
    answer_kind g.A.Accumulate.operation at.limits (g.K.SignalRule.allows at.rule) (seat_number seat) (seat_view seat) c.requires.reads

pub read-seat-requires-2-clause-rule : goal.read-seat-requires-2-clause-rule
read-seat-requires-2-clause-rule g c =
    let at = locked_terms c.args.self.of.phaser.now in
    answer_number g.A.Accumulate.operation at.limits (g.K.SignalRule.allows at.rule) (seat_number c.read-seat.result.0)
    (seat_view c.args.self.seat) (seat_view c.read-seat.result.0) c.requires.reads c.read-seat.ensures.rule.0

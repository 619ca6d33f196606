use Rattle.turn_lock.specs.Seats.{turn_number, turn_told, turn_view}
use Rattle.phase_shared.proofs.WordCalls.{board_number_written}
use Rattle.phase_shared.specs.Goods.{allows_or}
use Rattle.phase_shared.proofs.seats.desk.OnTurn.write_number.Goals as goal

pub write_as-requires-clause-rule : goal.write_as-requires-clause-rule
write_as-requires-clause-rule g c =
    let turn = c.args.self.turn in
    board_number_written g.A.Accumulate.operation g.S.Since.terms.limits (allows_or g.K.SignalRule.allows g.S.Since.terms.rule) (turn_number turn) (turn_told turn) c.args.number (turn_view turn) c.requires.completes

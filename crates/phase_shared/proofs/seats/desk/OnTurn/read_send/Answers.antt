use Rattle.turn_lock.specs.Seats.{turn_number, turn_told, turn_view}
use Rattle.phase_shared.proofs.WordCalls.{reads_send}
use Rattle.phase_shared.specs.Goods.{allows_or}
use Rattle.phase_shared.proofs.seats.desk.OnTurn.read_send.Goals as goal

pub read_as-requires-clause-rule : goal.read_as-requires-clause-rule
read_as-requires-clause-rule g c =
    let turn = c.args.self.turn in
    reads_send g.A.Accumulate.operation g.S.Since.terms.limits (allows_or g.K.SignalRule.allows g.S.Since.terms.rule) (turn_number turn) (turn_told turn) c.args.lane c.send_place.result (turn_view turn) c.requires.holds c.send_place.ensures.value

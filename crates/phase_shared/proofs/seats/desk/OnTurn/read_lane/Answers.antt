use Rattle.turn_lock.specs.Seats.{turn_number, turn_told, turn_view}
use Rattle.phase_shared.proofs.WordCalls.{reads_lane}
use Rattle.phase_shared.specs.Goods.{allows_or}
use Rattle.phase_shared.proofs.seats.desk.OnTurn.read_lane.Goals as goal

pub read_as-requires-clause-rule : goal.read_as-requires-clause-rule
read_as-requires-clause-rule g c =
    let turn = c.args.self.turn in
    reads_lane g.A.Accumulate.operation g.S.Since.terms.limits (allows_or g.K.SignalRule.allows g.S.Since.terms.rule) (turn_number turn) (turn_told turn) c.args.lane c.phase_place.result (turn_view turn) c.requires.other c.requires.low
    c.phase_place.ensures.value

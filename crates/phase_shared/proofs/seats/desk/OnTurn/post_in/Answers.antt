use Rattle.turn_lock.specs.Seats.{turn_number, turn_told, turn_view}
use Rattle.phase_shared.proofs.WordCalls.{posts_own}
use Rattle.phase_shared.specs.Goods.{allows_or}
use Rattle.phase_shared.proofs.seats.desk.OnTurn.post_in.Goals as goal

pub write_as-requires-clause-rule : goal.write_as-requires-clause-rule
write_as-requires-clause-rule g c =
    let turn = c.args.self.turn in
    posts_own g.A.Accumulate.operation g.S.Since.terms.limits (allows_or g.K.SignalRule.allows g.S.Since.terms.rule) g.S.Since.ask (turn_number turn) (turn_told turn) c.args.self.of.request c.phase_place-place.result (turn_view turn) c.args.self.of.ask_is
    c.requires.own c.phase_place-place.ensures.value

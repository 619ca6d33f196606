use Rattle.turn_lock.specs.Seats.{turn_number, turn_view, turn_value, turn_told}
use Rattle.phase_shared.proofs.TurnParts.{own_lane}
use Rattle.phase_shared.proofs.TurnEnds.{gives_rest}
use Rattle.phase_shared.specs.Goods.{allows_or}
use Rattle.phase_shared.proofs.seats.desk.OnTurn.rest.Goals as goal

pub clear_in-requires : goal.clear_in-requires
clear_in-requires g c =
    let turn = c.args.self.turn in
    record { own = own_lane g.A.Accumulate.operation g.S.Since.terms.limits (allows_or g.K.SignalRule.allows g.S.Since.terms.rule) g.S.Since.ask _ 0 (turn_view turn) (turn_value turn) c.requires.serving.turned }

pub give_same-requires : goal.give_same-requires
give_same-requires g c =
    let old = c.args.self.turn in
    let turn = c.clear_in.result.turn in
    record {
      rule = gives_rest g.A.Accumulate.operation g.S.Since.terms.limits (allows_or g.K.SignalRule.allows g.S.Since.terms.rule) g.S.Since.ask g.S.Since.seen (turn_number turn) (turn_told turn) (turn_view old) (turn_view turn) (turn_value old) (turn_value turn)
          c.requires.serving c.clear_in.ensures.lane c.clear_in.ensures.value c.requires.low;
    }

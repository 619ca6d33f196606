use Rattle.turn_lock.specs.Seats.{turn_number, turn_view, turn_value, turn_told}
use Rattle.phase_shared.proofs.TurnParts.{holder}
use Rattle.phase_shared.proofs.TurnEnds.{gives_answered}
use Rattle.phase_shared.specs.Goods.{allows_or}
use Rattle.phase_shared.proofs.seats.desk.OnTurn.take_answer.Goals as goal

pub read_board-on-requires : goal.read_board-on-requires
read_board-on-requires g c = record { holds = holder g.A.Accumulate.operation g.S.Since.terms.limits (allows_or g.K.SignalRule.allows g.S.Since.terms.rule) g.S.Since.ask _ 0 (turn_view c.args.self.turn) (turn_value c.args.self.turn) c.requires.answered.turned }

pub give_same-desk-requires : goal.give_same-desk-requires
give_same-desk-requires g c =
    let turn = c.read_board-on.result.0.turn in
    let e = c.read_board-on.ensures in
    record {
      rule = gives_answered g.A.Accumulate.operation g.S.Since.terms.limits (allows_or g.K.SignalRule.allows g.S.Since.terms.rule) g.S.Since.ask g.S.Since.seen (turn_number turn) (turn_told turn) c.read_board-on.result.1 (turn_view c.args.self.turn) (turn_view turn)
          (turn_value c.args.self.turn) (turn_value turn) c.requires.answered e.view e.value e.board;
    }

pub invariant_of-result : goal.invariant_of-result
invariant_of-result g c = c.give_same-desk.ensures.rule

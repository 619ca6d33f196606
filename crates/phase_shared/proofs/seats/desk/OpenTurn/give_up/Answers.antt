use Rattle.turn_lock.specs.Seats.{turn_number, turn_view, turn_value, turn_told}
use Rattle.phase_shared.proofs.TurnParts.{own_lane}
use Rattle.phase_shared.proofs.TurnEnds.{gives_asking}
use Rattle.phase_shared.specs.Goods.{allows_or}
use Rattle.phase_shared.proofs.seats.desk.OpenTurn.give_up.Goals as goal

pub post_in-requires : goal.post_in-requires
post_in-requires g c =
    let turn = c.self.inside.on.turn in
    record { own = own_lane g.A.Accumulate.operation g.S.Since.terms.limits (allows_or g.K.SignalRule.allows g.S.Since.terms.rule) g.S.Since.ask _ 0 (turn_view turn) (turn_value turn) c.self.invariant.serving.turned }

pub give_same-desk-requires : goal.give_same-desk-requires
give_same-desk-requires g c =
    let old = c.self.inside.on.turn in
    let turn = c.post_in.result.turn in
    record {
      rule = gives_asking g.A.Accumulate.operation g.S.Since.terms.limits (allows_or g.K.SignalRule.allows g.S.Since.terms.rule) g.S.Since.ask g.S.Since.seen (turn_number turn) (turn_told turn) (turn_view old) (turn_view turn) (turn_value old) (turn_value turn)
          c.self.invariant.serving c.post_in.ensures.lane c.post_in.ensures.value c.self.invariant.was_open;
    }

pub invariant_of-result : goal.invariant_of-result
invariant_of-result g c = (c.give_same-desk.ensures.rule, c.self.invariant.asks)

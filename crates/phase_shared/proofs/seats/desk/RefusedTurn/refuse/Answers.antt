use Rattle.std.proofs.Common.{◌∙◌}
use Rattle.turn_lock.specs.Seats.{turn_number, turn_view, turn_value, turn_told}
use Rattle.phase_shared.proofs.TurnParts.{own_lane}
use Rattle.phase_shared.proofs.TurnEnds.{gives_refused}
use Rattle.phase_shared.specs.Goods.{allows_or}
use Rattle.phase_shared.proofs.seats.desk.RefusedTurn.refuse.Goals as goal

pub clear_in-requires : goal.clear_in-requires
clear_in-requires g c =
    let turn = c.self.inside.on.turn in
    record { own = own_lane g.A.Accumulate.operation g.S.Since.terms.limits (allows_or g.K.SignalRule.allows g.S.Since.terms.rule) g.S.Since.ask _ 0 (turn_view turn) (turn_value turn) c.self.invariant.0.turned }

pub give_same-desk-requires : goal.give_same-desk-requires
give_same-desk-requires g c =
    let old = c.self.inside.on.turn in
    let turn = c.clear_in.result.turn in
    record {
      rule = gives_refused g.A.Accumulate.operation g.S.Since.terms.limits (allows_or g.K.SignalRule.allows g.S.Since.terms.rule) g.S.Since.ask g.S.Since.seen (turn_number turn) (turn_told turn) c.self.inside.refusal (turn_view old) (turn_view turn) (turn_value old) (turn_value turn)
          c.self.invariant.0 c.clear_in.ensures.lane (c.clear_in.ensures.value ∙ c.value_in.ensures.value) c.self.invariant.1;
    }

pub invariant_of-result : goal.invariant_of-result
invariant_of-result g c = c.give_same-desk.ensures.rule

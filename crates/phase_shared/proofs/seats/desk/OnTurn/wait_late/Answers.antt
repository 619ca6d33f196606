use Rattle.std.proofs.Common.{false}
use Rattle.turn_lock.specs.Seats.{turn_number, turn_view, turn_value, turn_told}
use Rattle.phase_shared.proofs.TurnParts.{is_done}
use Rattle.phase_shared.proofs.TurnEnds.{gives_late}
use Rattle.phase_shared.specs.Goods.{allows_or}
use Rattle.phase_shared.proofs.seats.desk.OnTurn.wait_late.Goals as goal

pub wait_own-on-requires : goal.wait_own-on-requires
wait_own-on-requires g c = record {
  serving = (
    false,
    0,
    c.requires.serving,
    is_done g.A.Accumulate.operation g.S.Since.terms.limits (allows_or g.K.SignalRule.allows g.S.Since.terms.rule) g.S.Since.ask g.S.Since.seen (turn_view c.args.self.turn) (turn_value c.args.self.turn) c.requires.serving c.requires.complete,
  );
}

pub give_same-desk-requires : goal.give_same-desk-requires
give_same-desk-requires g c =
    let turn = c.wait_own-on.result.0.turn in
    record {
      rule = gives_late g.A.Accumulate.operation g.S.Since.terms.limits (allows_or g.K.SignalRule.allows g.S.Since.terms.rule) g.S.Since.ask g.S.Since.seen (turn_number turn) (turn_told turn) c.wait_own-on.result.1 (turn_view turn) (turn_value turn) c.value_in.result.now
          (c.wait_own-on.ensures.finished false 0 c.requires.serving
          (is_done g.A.Accumulate.operation g.S.Since.terms.limits (allows_or g.K.SignalRule.allows g.S.Since.terms.rule) g.S.Since.ask g.S.Since.seen (turn_view c.args.self.turn) (turn_value c.args.self.turn) c.requires.serving c.requires.complete))
          c.value_in.ensures.value;
    }

pub invariant_of-result : goal.invariant_of-result
invariant_of-result g c = c.give_same-desk.ensures.rule

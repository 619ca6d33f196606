use Rattle.std.proofs.Common.{sym, subst}
use Rattle.turn_lock.specs.Seats.{turn_number, turn_told, turn_view}
use Rattle.phase_shared.specs.LockedPhasers.{locked_terms}
use Rattle.phase_shared.specs.WordTells.{Completes}
use Rattle.phase_shared.specs.declared.seats.view.View.{View}
use Rattle.phase_shared.proofs.AskCalls.{holder_kind}
use Rattle.phase_shared.proofs.WordCalls.{board_kind_written, is_holder}
use Rattle.phase_shared.specs.Goods.{allows_or}
use Rattle.phase_shared.proofs.seats.desk.OnTurn.write_kind.Goals as goal

pub read_in-turn-requires-clause-rule : goal.read_in-turn-requires-clause-rule
read_in-turn-requires-clause-rule g c =
    let turn = c.args.self.turn in
    let at = locked_terms c.args.self.of.phaser.now in
    holder_kind g.A.Accumulate.operation at.limits (g.K.SignalRule.allows at.rule) (turn_number turn) (turn_told turn) (turn_view turn)
    (is_holder g.S.Since.terms.limits (turn_view turn) c.requires.completes)

pub write_as-requires-clause-rule : goal.write_as-requires-clause-rule
write_as-requires-clause-rule g c =
    let turn = c.read_in-turn.result.0 in
    board_kind_written g.A.Accumulate.operation g.S.Since.terms.limits (allows_or g.K.SignalRule.allows g.S.Since.terms.rule) (turn_number turn) (turn_told turn) c.args.kind (turn_view turn)
    (subst (λ (v : View). Completes g.S.Since.terms.limits v) (sym c.read_in-turn.ensures.rule.0) c.requires.completes)

use Rattle.turn_lock.specs.Seats.{turn_number, turn_told, turn_view}
use Rattle.phase_shared.specs.LockedPhasers.{locked_terms}
use Rattle.phase_shared.proofs.AskCalls.{holder_kind, holder_number}
use Rattle.phase_shared.proofs.seats.desk.OnTurn.read_board.Goals as goal

pub read_in-turn-requires-clause-rule : goal.read_in-turn-requires-clause-rule
read_in-turn-requires-clause-rule g c =
    let turn = c.args.self.turn in
    let at = locked_terms c.args.self.of.phaser.now in
    holder_kind g.A.Accumulate.operation at.limits (g.K.SignalRule.allows at.rule) (turn_number turn) (turn_told turn) (turn_view turn) c.requires.holds

pub read_in-turn-requires-2-clause-rule : goal.read_in-turn-requires-2-clause-rule
read_in-turn-requires-2-clause-rule g c =
    let turn = c.read_in-turn.result.0 in
    let at = locked_terms c.args.self.of.phaser.now in
    holder_number g.A.Accumulate.operation at.limits (g.K.SignalRule.allows at.rule) (turn_number turn) (turn_told turn)
    (turn_view c.args.self.turn) (turn_view turn) c.requires.holds c.read_in-turn.ensures.rule.0

use Rattle.turn_lock.specs.Seats.{turn_number, turn_view, turn_value, turn_told}
use Rattle.turn_lock.specs.WordSteps.{GivesOf}
use Rattle.phase_shared.specs.LockedPhasers.{locked_terms}
use Rattle.phase_shared.specs.Rule.{IsOneHistory}
use Rattle.phase_shared.proofs.CallSteps.{at_phaser}
use Rattle.phase_shared.proofs.Giving.{gives_told}
use Rattle.phase_shared.proofs.seats.desk.OnTurn.give_same.Goals as goal

pub give-seat-requires-clause-rule : goal.give-seat-requires-clause-rule
give-seat-requires-clause-rule g c =
    let turn = c.args.self.turn in
    let same = c.told_in-turn.result.0 in
    let told = c.told_in-turn.ensures in
    let at = locked_terms c.args.self.of.phaser.now in
    gives_told g.A.Accumulate.operation at.limits (g.K.SignalRule.allows at.rule) g.E.Plan.goes (turn_number turn) (turn_number same)
    (turn_view turn) (turn_view same) (turn_value turn) (turn_value same) (turn_told turn) (turn_told same) (turn_told turn) c.told_in-turn.result.1
    told.turn.1 told.view told.value told.stays told.told
    (at_phaser g.K.SignalRule.allows at g.S.Since.terms c.args.self.of.terms_is
    (λ limits allows. GivesOf (IsOneHistory g.A.Accumulate.operation limits allows) tt (turn_number turn) (turn_view turn) (turn_value turn) (turn_told turn) (turn_told turn) (λ v y w. g.E.Plan.goes v w))
    c.requires.rule)

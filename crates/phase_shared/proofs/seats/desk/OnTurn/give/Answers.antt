use Rattle.turn_lock.specs.Seats.{turn_number, turn_view, turn_value, turn_told}
use Rattle.turn_lock.specs.WordSteps.{GivesOf}
use Rattle.phase_shared.specs.LockedPhasers.{locked_terms}
use Rattle.phase_shared.specs.Rule.{IsOneHistory}
use Rattle.phase_shared.proofs.CallSteps.{at_phaser}
use Rattle.phase_shared.proofs.seats.desk.OnTurn.give.Goals as goal

pub give-seat-requires-clause-rule : goal.give-seat-requires-clause-rule
give-seat-requires-clause-rule g c =
    let turn = c.args.self.turn in
    at_phaser g.K.SignalRule.allows (locked_terms c.args.self.of.phaser.now) g.S.Since.terms c.args.self.of.terms_is
    (λ limits allows. GivesOf (IsOneHistory g.A.Accumulate.operation limits allows) tt (turn_number turn) (turn_view turn) (turn_value turn) (turn_told turn) c.args.told (λ v y w. g.E.Plan.goes v w))
    c.requires.rule

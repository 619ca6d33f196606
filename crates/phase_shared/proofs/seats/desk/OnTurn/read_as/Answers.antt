use Rattle.turn_lock.specs.Seats.{turn_number, turn_view, turn_told}
use Rattle.turn_lock.specs.WordSteps.{ReadsIn}
use Rattle.phase_shared.specs.LockedPhasers.{locked_terms}
use Rattle.phase_shared.specs.Rule.{IsOneHistory}
use Rattle.phase_shared.proofs.CallSteps.{at_phaser}
use Rattle.phase_shared.proofs.seats.desk.OnTurn.read_as.Goals as goal

pub read_in-turn-requires-clause-rule : goal.read_in-turn-requires-clause-rule
read_in-turn-requires-clause-rule g c =
    let turn = c.args.self.turn in
    at_phaser g.K.SignalRule.allows (locked_terms c.args.self.of.phaser.now) g.S.Since.terms c.args.self.of.terms_is
    (λ limits allows. ReadsIn (IsOneHistory g.A.Accumulate.operation limits allows) tt (turn_number turn) (turn_view turn) (turn_told turn) c.args.place (λ v r w. g.E.Report.tells v r w))
    c.requires.rule

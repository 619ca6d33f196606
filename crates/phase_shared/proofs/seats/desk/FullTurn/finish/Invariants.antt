use Rattle.phase_shared.specs.Servings.{HasAnswer}
use Rattle.phase_shared.specs.Goods.{allows_or}
use Rattle.phase_shared.proofs.seats.desk.FullTurn.finish.Given as goal

-- it has its answer
abbrev pub ghosts-give : goal.ghosts-give
ghosts-give g a = record { goes = λ v w. HasAnswer g.A.Accumulate.operation g.S.Since.terms.limits (allows_or g.K.SignalRule.allows g.S.Since.terms.rule) g.S.Since.ask g.S.Since.seen a.with w }

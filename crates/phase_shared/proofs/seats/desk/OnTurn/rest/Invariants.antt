use Rattle.phase_shared.specs.Servings.{HasSignalled}
use Rattle.phase_shared.specs.Goods.{allows_or}
use Rattle.phase_shared.proofs.seats.desk.OnTurn.rest.Given as goal

-- its signal is made, and it asks no more
abbrev pub ghosts-give_same : goal.ghosts-give_same
ghosts-give_same g a = record { goes = λ v w. HasSignalled g.A.Accumulate.operation g.S.Since.terms.limits (allows_or g.K.SignalRule.allows g.S.Since.terms.rule) g.S.Since.ask g.S.Since.seen w }

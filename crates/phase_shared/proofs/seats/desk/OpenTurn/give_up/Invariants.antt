use Rattle.phase_shared.specs.Servings.{IsAsking}
use Rattle.phase_shared.proofs.seats.desk.OpenTurn.give_up.Given as goal

-- it asks still
abbrev pub ghosts-give_same : goal.ghosts-give_same
ghosts-give_same g a = record { goes = λ v w. IsAsking g.S.Since.ask g.S.Since.seen w }

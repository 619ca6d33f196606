use Rattle.phase_shared.specs.WordTells.{HasKind}
use Rattle.phase_shared.proofs.seats.desk.OnTurn.write_kind.Given as goal

-- the board has the kind
abbrev pub ghosts-write_as : goal.ghosts-write_as
ghosts-write_as g a = record { goes = HasKind a.told }

use Rattle.phase_shared.specs.WordTells.{HasNumber}
use Rattle.phase_shared.proofs.seats.desk.OnTurn.write_number.Given as goal

-- the board has the number
abbrev pub ghosts-write_as : goal.ghosts-write_as
ghosts-write_as g a = record { goes = HasNumber a.told }

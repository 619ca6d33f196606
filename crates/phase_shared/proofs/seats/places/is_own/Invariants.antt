use Rattle.phase_shared.specs.WordTells.{OwnRead}
use Rattle.phase_shared.proofs.seats.places.is_own.Given as goal

-- whether the lane is its own
abbrev pub ghosts-read_owner : goal.ghosts-read_owner
ghosts-read_owner g a = record { tells = OwnRead a.told.1 a.told.0 }

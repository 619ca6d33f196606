use Rattle.phase_shared.specs.WordTells.{OwnerReadAt}
use Rattle.phase_shared.proofs.seats.desk.OnTurn.read_owner.Given as goal

-- whose it is it has read
abbrev pub ghosts-read_as : goal.ghosts-read_as
ghosts-read_as g a = record { tells = OwnerReadAt a.told }

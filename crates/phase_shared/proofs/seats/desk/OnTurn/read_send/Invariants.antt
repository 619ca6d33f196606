use Rattle.phase_shared.specs.WordTells.{SendReadAt}
use Rattle.phase_shared.proofs.seats.desk.OnTurn.read_send.Given as goal

-- what is sent there it has read
abbrev pub ghosts-read_as : goal.ghosts-read_as
ghosts-read_as g a = record { tells = SendReadAt a.told }

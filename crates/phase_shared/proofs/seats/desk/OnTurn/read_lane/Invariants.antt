use Rattle.phase_shared.specs.WordTells.{LaneReadAt}
use Rattle.phase_shared.specs.Goods.{allows_or}
use Rattle.phase_shared.proofs.seats.desk.OnTurn.read_lane.Given as goal

-- what was asked there it has read
abbrev pub ghosts-read_as : goal.ghosts-read_as
ghosts-read_as g a = record { tells = LaneReadAt g.S.Since.terms.limits (allows_or g.K.SignalRule.allows g.S.Since.terms.rule) a.told }

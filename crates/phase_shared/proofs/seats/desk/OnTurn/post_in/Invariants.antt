use Rattle.std.specs.Prelude.{◌≡◌, ◌+◌}
use Rattle.phase_shared.specs.Views.{Holds}
use Rattle.phase_shared.specs.WordTells.{with_lane}
use Rattle.phase_shared.proofs.seats.desk.OnTurn.post_in.Given as goal

-- the lane has its phase
abbrev pub ghosts-write_as : goal.ghosts-write_as
ghosts-write_as g a = record { goes = λ v w. w ≡ with_lane (Holds g.S.Since.ask.lane (g.S.Since.ask.phase + 1)) v }

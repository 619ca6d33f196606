use Rattle.std.specs.Prelude.{◌≡◌}
use Rattle.phase_shared.specs.Views.{Own}
use Rattle.phase_shared.specs.WordTells.{with_lane}
use Rattle.phase_shared.proofs.seats.desk.OnTurn.clear_in.Given as goal

-- the lane has nothing
abbrev pub ghosts-write_as : goal.ghosts-write_as
ghosts-write_as g a = record { goes = λ v w. w ≡ with_lane (Own g.S.Since.ask.lane) v }

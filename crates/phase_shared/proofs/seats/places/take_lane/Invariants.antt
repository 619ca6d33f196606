use Rattle.std.specs.Prelude.{◌≡◌}
use Rattle.phase_shared.specs.Views.{Unknown}
use Rattle.phase_shared.specs.WordTells.{FreeRead, with_lane}
use Rattle.phase_shared.proofs.seats.places.take_lane.Given as goal

-- whether the lane is nobody's
abbrev pub ghosts-read_owner_in : goal.ghosts-read_owner_in
ghosts-read_owner_in g a = record { tells = FreeRead a.told }

-- it knows of no lane any more
abbrev pub ghosts-write_owner_in : goal.ghosts-write_owner_in
ghosts-write_owner_in g a = record { goes = λ v w. w ≡ with_lane Unknown v }

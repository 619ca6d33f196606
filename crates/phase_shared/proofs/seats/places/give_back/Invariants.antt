use Rattle.std.specs.Prelude.{◌≡◌}
use Rattle.phase_shared.specs.Views.{known_of}
use Rattle.phase_shared.specs.declared.seats.view.View.TheVariants.{Resting}
use Rattle.phase_shared.proofs.seats.places.give_back.Given as goal

-- it rests as before
abbrev pub ghosts-leave_lane : goal.ghosts-leave_lane
ghosts-leave_lane g a = record { goes = λ v w. w ≡ Resting (known_of v) }

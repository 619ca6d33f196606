use Rattle.std.specs.Prelude.{◌≡◌, ◌∷◌}
use Rattle.phase_history.specs.declared.event.Event.TheVariants.{Dropped}
use Rattle.phase_shared.specs.Views.{resting, known_of, speaks_of}
use Rattle.phase_shared.proofs.seats.steps.leave.Given as goal

abbrev pub ghosts-put_back : goal.ghosts-put_back
ghosts-put_back g a = record { goes = λ v w. w ≡ resting (Dropped a.told ∷ (known_of v).seen) (speaks_of v) }

use Rattle.std.specs.Prelude.{◌≡◌, [], ◌∷◌}
use Rattle.phase_history.specs.declared.event.Event.TheVariants.{Registered}
use Rattle.phase_shared.specs.Views.{resting, known_of}
use Rattle.phase_shared.proofs.seats.steps.register.Given as goal

abbrev pub ghosts-put_back : goal.ghosts-put_back
ghosts-put_back g a = record { goes = λ v w. w ≡ resting (Registered a.told.0 a.told.1 a.told.2 ∷ (known_of v).seen) (a.told.0 ∷ a.told.1 ∷ []) }

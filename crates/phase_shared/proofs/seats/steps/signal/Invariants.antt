use Rattle.std.specs.Prelude.{◌≡◌, ℤ, List, [], ◌∷◌}
use Rattle.phase_shared.specs.Phasers.{StandsForSends, after_wait}
use Rattle.phase_history.specs.declared.event.Event.TheVariants.{Signalled}
use Rattle.phase_shared.specs.Views.{resting, known_of, speaks_of}
use Rattle.phase_shared.proofs.seats.steps.signal.Given as goal

-- the event of a signal, with sends that the pending ones stand for, and then the wait's, where it
-- got a value
abbrev pub ghosts-put_back : goal.ghosts-put_back
ghosts-put_back g a = record {
  goes = λ v w. (sends : List ℤ) × StandsForSends g.A.Accumulate.operation a.told.1.now sends
      × (w ≡ resting (after_wait a.told.3 a.told.0 (Signalled a.told.0 (sends ∷ []) a.told.2.now ∷ (known_of v).seen)) (speaks_of v));
}

use Rattle.std.specs.Prelude.{◌≡◌, ℤ, List}
use Rattle.phase_shared.specs.Phasers.{StandForLists, after_signal}
use Rattle.phase_shared.specs.Views.{resting, known_of, speaks_of}
use Rattle.phase_shared.proofs.seats.block_steps.signal_lists.Given as goal

-- the event of a signal where it was accepted, with lists of sends for which the parcels stand
abbrev pub ghosts-put_back : goal.ghosts-put_back
ghosts-put_back g a = record {
  goes = λ v w. (sends : List (List ℤ)) × StandForLists g.A.Accumulate.operation a.told.1.now sends
      × (w ≡ resting (after_signal a.told.3 a.told.0 sends a.told.2.now (known_of v).seen) (speaks_of v));
}

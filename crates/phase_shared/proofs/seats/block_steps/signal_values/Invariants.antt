-- the event of a signal of these values, where it was accepted
use Rattle.std.specs.Prelude.{◌≡◌}
use Rattle.phase_core.specs.Blocks.{one_each}
use Rattle.phase_shared.specs.Phasers.{after_signal}
use Rattle.phase_shared.specs.Views.{resting, known_of, speaks_of}
use Rattle.phase_shared.proofs.seats.block_steps.signal_values.Given as goal

abbrev pub ghosts-put_back : goal.ghosts-put_back
ghosts-put_back g a = record {
  goes = λ v w. w ≡ resting (after_signal a.told.3 a.told.0 (one_each a.told.1.now) a.told.2.now (known_of v).seen) (speaks_of v);
}

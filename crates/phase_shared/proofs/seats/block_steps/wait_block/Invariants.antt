use Rattle.std.specs.Prelude.{◌≡◌}
use Rattle.phase_history.specs.Replies.{after_wait_block}
use Rattle.phase_shared.specs.Views.{resting, known_of, speaks_of}
use Rattle.phase_shared.proofs.seats.block_steps.wait_block.Given as goal

-- the event of a wait that got values
abbrev pub ghosts-put_back : goal.ghosts-put_back
ghosts-put_back g a = record { goes = λ v w. w ≡ resting (after_wait_block a.told.1 a.told.0 (known_of v).seen) (speaks_of v) }

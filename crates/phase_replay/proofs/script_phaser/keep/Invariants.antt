-- The first places are put.
use Rattle.std.proofs.Common.{◌≡◌, take}
use Rattle.phase_replay.proofs.script_phaser.keep.Given as goal

abbrev pub invariant-loop-outcome : goal.invariant-loop-outcome
invariant-loop-outcome l = l.outcomes ≡ take l.outcome-index l.places

-- The first values stand in the first places.
use Rattle.std.proofs.Common.{◌≡◌, length, take}
use Rattle.phase_core.specs.Blocks.{StandForLists, one_each}
use Rattle.phase_core.proofs.one_sends.hold_each.Given as goal

abbrev pub invariant-loop-k : goal.invariant-loop-k
invariant-loop-k g l =
    StandForLists g.A.Accumulate.operation (take l.k l.places) (one_each (take l.k l.values))
    × (length l.places ≡ length l.fn.places)

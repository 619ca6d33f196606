use Rattle.std.proofs.Common.{◌≡◌, ◌≤◌, ◌+◌, ◌-◌, length, take}
use Rattle.std.specs.Prelude.{vec_capacity}
use Rattle.stream_filters.specs.FilterFields.{HasStepped}
use Rattle.stream_filters.proofs.fir.Fir.steps.Given as goal

-- the samples before number `at` are taken, and their outputs put
abbrev pub invariant-loop-at : goal.invariant-loop-at
invariant-loop-at l =
    HasStepped l.fn.self l.self (take l.at l.samples) l.fn.made.items l.made.items
    × (length l.made.items ≡ length l.fn.made.items + l.at)
    × (vec_capacity l.made ≡ vec_capacity l.fn.made)
    × (l.at ≤ length l.samples)

-- the samples that are left
abbrev pub decreases-loop-at : goal.decreases-loop-at
decreases-loop-at l = length l.samples - l.at

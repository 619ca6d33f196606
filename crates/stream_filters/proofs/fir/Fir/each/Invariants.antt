use Rattle.std.proofs.Common.{◌≡◌, ◌+◌, length, take}
use Rattle.std.specs.Prelude.{vec_capacity}
use Rattle.stream_filters.specs.FilterFields.{HasStepped}
use Rattle.stream_filters.proofs.fir.Fir.each.Given as goal

-- the samples before this one are taken, and their outputs put
abbrev pub invariant-loop-x : goal.invariant-loop-x
invariant-loop-x l =
    HasStepped l.fn.self l.self (take l.x-index l.samples) l.fn.made.items l.made.items
    × (length l.made.items ≡ length l.fn.made.items + l.x-index)
    × (vec_capacity l.made ≡ vec_capacity l.fn.made)

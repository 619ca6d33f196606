-- The holds so far have given their shares.
use Rattle.std.proofs.Common.{◌≡◌, length}
use Rattle.stream_tasks.specs.Joiners.{HaveGiven}
use Rattle.stream_tasks.proofs.join_block.take_each.Given as goal

abbrev pub invariant-loop-k : goal.invariant-loop-k
invariant-loop-k l =
    HaveGiven l.k l.each l.fn.holds.items l.holds.items l.outcomes.items
    × (length l.holds.items ≡ length l.fn.holds.items)
    × (length l.outcomes.items ≡ length l.fn.outcomes.items)

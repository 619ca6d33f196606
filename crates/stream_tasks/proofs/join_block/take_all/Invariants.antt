-- While others are in the middle of a call the hold is as it was.
use Rattle.std.proofs.Common.{◌≡◌, length}
use Rattle.stream_tasks.proofs.join_block.take_all.Given as goal

abbrev pub invariant-loop : goal.invariant-loop
invariant-loop l = (l.hold ≡ l.fn.hold) × (length l.places ≡ length l.fn.places)

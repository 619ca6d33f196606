-- The numbers of the outcomes before this one.
use Rattle.std.proofs.Common.{◌≡◌, map, length}
use Rattle.std.specs.Prelude.{take}
use Rattle.stream_lists.specs.Lists.{number}
use Rattle.stream_tasks.proofs.turn.numbers_of.Given as goal

abbrev pub invariant-loop-i : goal.invariant-loop-i
invariant-loop-i l = (take l.i l.numbers ≡ map number (take l.i l.outcomes)) × (length l.numbers ≡ 16)

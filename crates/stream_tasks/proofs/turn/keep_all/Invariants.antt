-- The numbers of the outcomes so far are kept.
use Rattle.std.proofs.Common.{◌≡◌, ◌++◌, map}
use Rattle.std.specs.Prelude.{take}
use Rattle.stream_lists.specs.Lists.{number}
use Rattle.stream_tasks.proofs.turn.keep_all.Given as goal

abbrev pub invariant-loop-outcome : goal.invariant-loop-outcome
invariant-loop-outcome l =
    (l.lines.items ≡ l.fn.lines.items ++ map number (take l.outcome-index l.outcomes))
    × (l.lines.cap ≡ l.fn.lines.cap)

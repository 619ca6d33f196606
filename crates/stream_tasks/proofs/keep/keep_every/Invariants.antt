-- The numbers so far are kept.
use Rattle.std.proofs.Common.{◌≡◌, ◌+◌, ◌*◌, map}
use Rattle.std.specs.List.{range_with_len}
use Rattle.stream_lists.specs.Lists.{entry, number}
use Rattle.stream_tasks.proofs.keep.keep_every.Given as goal

abbrev pub invariant-loop-k : goal.invariant-loop-k
invariant-loop-k l =
    (l.made.items
    ≡ map (λ k. entry (map number l.outcomes) (l.first + k * l.step)) (range_with_len 0 l.k))
    × (l.made.cap ≡ l.fn.made.cap)

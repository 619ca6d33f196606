-- The values so far are gathered.
use Rattle.std.proofs.Common.{◌≡◌, ◌+◌, ◌*◌, map}
use Rattle.std.specs.List.{range_with_len}
use Rattle.stream_lists.specs.Lists.{entry}
use Rattle.stream_tasks.proofs.deal.gather.Given as goal

abbrev pub invariant-loop-k : goal.invariant-loop-k
invariant-loop-k l =
    (l.share.items ≡ map (λ k. entry l.values (l.first + k * l.step)) (range_with_len 0 l.k))
    × (l.share.cap ≡ l.fn.share.cap)

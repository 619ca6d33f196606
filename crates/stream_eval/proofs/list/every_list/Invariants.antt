use Rattle.std.proofs.Common.{◌≡◌, ◌+◌, ◌*◌, map}
use Rattle.std.specs.List.{range_with_len}
use Rattle.stream_lists.specs.Lists.{entry}
use Rattle.stream_eval.proofs.list.every_list.Given as goal

-- the entries before this one
abbrev pub invariant-loop-k : goal.invariant-loop-k
invariant-loop-k l =
    l.list.items ≡ map (λ k. entry l.values (l.j + k * l.m)) (range_with_len 0 l.k)

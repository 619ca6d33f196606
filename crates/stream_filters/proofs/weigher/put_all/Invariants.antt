use Rattle.std.proofs.Common.{◌≡◌, ◌++◌, take}
use Rattle.std.specs.Prelude.{vec_capacity}
use Rattle.stream_filters.proofs.weigher.put_all.Given as goal

-- the values before this one are put
abbrev pub invariant-loop-value : goal.invariant-loop-value
invariant-loop-value l =
    (l.list.items ≡ l.fn.list.items ++ take l.value-index l.values)
    × (vec_capacity l.list ≡ vec_capacity l.fn.list)

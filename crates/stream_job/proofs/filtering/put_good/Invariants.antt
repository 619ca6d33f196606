-- The values before this one stand behind what was made.
use Rattle.std.proofs.Common.{◌≡◌, ◌++◌, map}
use Rattle.std.specs.Prelude.{Ok, take, vec_capacity}
use Rattle.stream_job.proofs.filtering.put_good.Given as goal

abbrev pub invariant-loop-value : goal.invariant-loop-value
invariant-loop-value l =
    (l.made.items ≡ l.fn.made.items ++ map (λ v. Ok v) (take l.value-index l.values))
    × (vec_capacity l.made ≡ vec_capacity l.fn.made)

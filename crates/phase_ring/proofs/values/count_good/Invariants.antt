-- None of the values so far is too big.
use Rattle.std.proofs.Common.{◌≡◌, ℕ, pos, ◌<◌, true, get_or}
use Rattle.phase_ring.specs.Blocks.{is_not_too_big}
use Rattle.phase_ring.specs.Restarts.{plain_value}
use Rattle.phase_ring.proofs.values.count_good.Given as goal

abbrev pub invariant-loop-k : goal.invariant-loop-k
invariant-loop-k g l =
    (j : ℕ) → j < l.k
    → is_not_too_big (plain_value g.A.Accumulate.operation (get_or l.values j (pos 0))) ≡ true

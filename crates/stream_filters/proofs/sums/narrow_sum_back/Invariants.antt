use Rattle.std.proofs.Common.{ℕ, ◌≤◌, ◌<◌, reverse, length}
use Rattle.std.specs.Prelude.{unsigned_abs}
use Rattle.stream_filters.specs.Sums.{back}
use Rattle.stream_filters.proofs.Weighted.{IsSumOf}
use Rattle.stream_filters.proofs.sums.narrow_sum_back.Given as goal

-- the sum over the last samples, as many as there are taps before number j
abbrev pub invariant-loop-j : goal.invariant-loop-j
invariant-loop-j l =
    (limit : ℕ) → ((j : ℕ) → j < length l.taps → unsigned_abs (back l.samples j) ≤ limit)
    → IsSumOf limit l.taps (reverse l.samples) l.j l.sum

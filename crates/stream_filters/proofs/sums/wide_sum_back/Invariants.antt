use Rattle.std.proofs.Common.{◌^◌, reverse}
use Rattle.stream_filters.proofs.Weighted.{IsSumOf}
use Rattle.stream_filters.proofs.sums.wide_sum_back.Given as goal

-- the sum over the last samples, as many as there are taps before number j
abbrev pub invariant-loop-j : goal.invariant-loop-j
invariant-loop-j l = IsSumOf (2 ^ 63) l.taps (reverse l.samples) l.j l.sum

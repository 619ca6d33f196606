use Rattle.std.proofs.Common.{◌≡◌, map, w64, of_z}
use Rattle.stream_filters.proofs.ManySums.{sums_after}
use Rattle.stream_filters.proofs.blocks.block_outputs.Given as goal

-- the sums over the taps before number j
abbrev pub invariant-loop-j : goal.invariant-loop-j
invariant-loop-j l = l.sums ≡ map (of_z w64) (sums_after l.taps l.samples l.j)

use Rattle.std.proofs.Common.{◌^◌, ◌<◌}
use Rattle.std.specs.Prelude.{unsigned_abs}
use Rattle.std.proofs.lemmas.Simd.{Each1-weaker}
use Rattle.stream_filters.proofs.Lanes.{lanes-with, shifted-bits}
use Rattle.stream_filters.proofs.blocks.lanes_shifted.Goals as goal

-- each lane is shifted by the same number of bits
pub returns : goal.returns
returns c =
    rw c.from.ensures (lanes-with _ _ c.args.sums 16 c.args.shift c.requires.lanes
    (Each1-weaker (λ sum. unsigned_abs sum < 2 ^ 63) _
    (shifted-bits c.args.shift) c.args.sums c.requires.fits))

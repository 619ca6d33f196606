use Rattle.std.proofs.Common.{◌+◌, ◌^◌, ◌<◌}
use Rattle.std.specs.Prelude.{replicate, unsigned_abs}
use Rattle.std.proofs.lemmas.Simd.{Each1-weaker, Each2-splat}
use Rattle.stream_filters.proofs.Lanes.{Each2-bits, added-bits, added-fits, lanes-with}
use Rattle.stream_filters.proofs.blocks.with_added.Goals as goal

-- no lane leaves 64 bits
pub overflow_add-result : goal.overflow_add-result
overflow_add-result c =
    Each2-bits _ c.args.sums (replicate 16 c.args.plus)
    (Each2-splat _ c.args.sums 16 c.args.plus
    (Each1-weaker (λ sum. unsigned_abs sum + unsigned_abs c.args.plus < 2 ^ 63) _
    (added-fits c.args.plus) c.args.sums c.requires.fits))

pub returns : goal.returns
returns c =
    lanes-with _ _ c.args.sums 16 _ c.requires.lanes
    (Each1-weaker (λ sum. unsigned_abs sum + unsigned_abs c.args.plus < 2 ^ 63) _
    (added-bits c.args.plus) c.args.sums c.requires.fits)

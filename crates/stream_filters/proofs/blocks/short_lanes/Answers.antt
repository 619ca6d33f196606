use Rattle.std.proofs.lemmas.Simd.{Each1-weaker}
use Rattle.stream_filters.specs.Lanes.{IsShort}
use Rattle.stream_filters.proofs.Lanes.{Each1-bits, Each1-bits-map, lanes-back, short-fits, short-fits-again, short-back}
use Rattle.stream_filters.proofs.blocks.short_lanes.Goals as goal

-- 32 bits hold each sample
pub overflow_cast-result : goal.overflow_cast-result
overflow_cast-result c = Each1-bits _ _ (Each1-weaker IsShort _ short-fits _ c.requires.short)

pub overflow_cast-result-2 : goal.overflow_cast-result-2
overflow_cast-result-2 c = Each1-bits-map _ _ _ (Each1-weaker IsShort _ short-fits-again _
    c.requires.short)

-- so nothing is lost
pub returns : goal.returns
returns c = lanes-back _ _ _ (Each1-weaker IsShort _ short-back _ c.requires.short)

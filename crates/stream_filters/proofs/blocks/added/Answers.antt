use Rattle.stream_filters.specs.Lanes.{AddsUp}
use Rattle.stream_filters.proofs.Lanes.{Each2-bits, Each2-weaker, lanes-zip2, sum-fits, sum-is}
use Rattle.stream_filters.proofs.blocks.added.Goals as goal

pub overflow_add-result : goal.overflow_add-result
overflow_add-result c = Each2-bits _ _ _ (Each2-weaker AddsUp _ sum-fits _ _ c.requires)

pub returns : goal.returns
returns c = lanes-zip2 _ _ _ _ (Each2-weaker AddsUp _ sum-is _ _ c.requires)

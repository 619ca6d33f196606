use Rattle.stream_filters.proofs.Outputs.{outputs-push}
use Rattle.stream_filters.proofs.laws.outputs_grow.Goals as goal

-- the outputs at the earlier samples, and that at the new one
pub returns : goal.returns
returns c = outputs-push

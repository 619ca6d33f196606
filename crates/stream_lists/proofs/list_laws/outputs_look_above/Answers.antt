use Rattle.stream_lists.proofs.Ordered.{outputs_look_above as looks_above}
use Rattle.stream_lists.proofs.list_laws.outputs_look_above.Goals as goal

pub returns : goal.returns
returns c = looks_above

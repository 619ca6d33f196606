use Rattle.stream_filters.proofs.Outputs.{outputs-entry, outputs-length}
use Rattle.stream_filters.proofs.laws.outputs_entries.Goals as goal

-- the outputs are a map over the samples' numbers
pub returns : goal.returns
returns c = record { entry = outputs-entry; length = outputs-length }

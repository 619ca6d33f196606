use Rattle.stream_filters.proofs.Outputs.{back_is, back-before}
use Rattle.stream_filters.proofs.laws.back_entries.Goals as goal

-- a reversed list, entry by entry
pub returns : goal.returns
returns c = record { entry = back_is; before = back-before }

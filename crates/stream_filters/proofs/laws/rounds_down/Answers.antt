use Rattle.stream_filters.proofs.Outputs.{shifted_down-below, shifted_down-above}
use Rattle.stream_filters.proofs.laws.rounds_down.Goals as goal

-- by cases on the sign
pub returns : goal.returns
returns c = record { below = shifted_down-below; above = shifted_down-above }

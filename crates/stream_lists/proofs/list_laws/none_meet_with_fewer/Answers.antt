use Rattle.stream_lists.proofs.FewerCounts.{none_with_fewer}
use Rattle.stream_lists.proofs.list_laws.none_meet_with_fewer.Goals as goal

pub returns : goal.returns
returns c = none_with_fewer

use Rattle.stream_lists.proofs.MoreSamples.{meetings_fewer}
use Rattle.stream_lists.proofs.list_laws.meetings_come_with_more.Goals as goal

pub returns : goal.returns
returns c = meetings_fewer

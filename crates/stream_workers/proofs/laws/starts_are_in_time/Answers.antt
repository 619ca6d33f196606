-- By the parents, from the roots on.
use Rattle.stream_workers.proofs.StartsInTime.{starts_in_time}
use Rattle.stream_workers.proofs.laws.starts_are_in_time.Goals as goal

pub returns : goal.returns
returns c = starts_in_time

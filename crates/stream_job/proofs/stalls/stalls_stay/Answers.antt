-- Each is so.
use Rattle.stream_job.proofs.StillStays.{all_still}
use Rattle.stream_job.proofs.stalls.stalls_stay.Goals as goal

pub returns : goal.returns
returns c = all_still

-- What a task has received is what its waits were answered.
use Rattle.graph_runs.proofs.Answered.{met_none}
use Rattle.graph_runs.proofs.moments.met_none.Goals as goal

pub returns : goal.returns
returns c = met_none

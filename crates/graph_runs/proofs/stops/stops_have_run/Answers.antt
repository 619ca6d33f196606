use Rattle.graph_runs.proofs.Joined.{whole}
use Rattle.graph_runs.proofs.Wholes.{has_run}
use Rattle.graph_runs.proofs.stops.stops_have_run.Goals as goal

pub returns : goal.returns
returns c = λ job ends is r. (whole job ends is r, has_run job ends is r)

-- Nobody has sent, waited or left.
use Rattle.graph_runs.proofs.Opened.{opened_ran}
use Rattle.graph_runs.proofs.moves.opening.Goals as goal

pub returns : goal.returns
returns c = opened_ran

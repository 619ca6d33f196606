use Rattle.graph_runs.proofs.FedRuns.{run_fed, reachable_fed}
use Rattle.graph_runs.proofs.feeds.runs_go_on.Goals as goal

pub returns : goal.returns
returns c = record { ran = run_fed; reachable = reachable_fed }

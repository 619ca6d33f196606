-- The turn leads to a moment that has run.
use Rattle.graph_base.specs.Graphs.{task_at}
use Rattle.graph_runs.proofs.Stepping.{line_sizes}
use Rattle.graph_runs.proofs.FedFaults.{fault_fed}
use Rattle.graph_runs.proofs.feeds.faults_go_on.Goals as goal

pub returns : goal.returns
returns c = λ job m t at samples ready reached told goes.
    (let block = (task_at job.graph t).block in
    fault_fed block block job m t at samples (line_sizes job t ready.graph) ready reached
    (c.turns_stay_reached.ensures.turn job m t ready.graph reached).ran told goes)

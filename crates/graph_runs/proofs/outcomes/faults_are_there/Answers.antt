-- Who makes no phase and no step has no fault.
use Rattle.graph_runs.proofs.FaultPlaces.{fault_there}
use Rattle.graph_runs.proofs.outcomes.faults_are_there.Goals as goal

pub returns : goal.returns
returns c = fault_there

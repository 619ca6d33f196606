-- The definitions take what it took, and make what it makes.
use Rattle.graph_runs.specs.Moments.{started}
use Rattle.graph_runs.proofs.Started.{ready_as, run_started}
use Rattle.graph_runs.proofs.TooBigs.{met_is_fault, made_is_fault, fault_tells}
use Rattle.graph_runs.proofs.moments.too_big_is_a_fault.Goals as goal

pub returns-clause-met : goal.returns-clause-met
returns-clause-met c = λ job m t k n ready ran.
    met_is_fault (started job m) m t k n (ready_as job m ready) (run_started job m ran)

pub returns-clause-made : goal.returns-clause-made
returns-clause-made c = λ job m t j p i ready ran.
    made_is_fault (started job m) m t j p i (ready_as job m ready) (run_started job m ran)

pub returns-clause-tells : goal.returns-clause-tells
returns-clause-tells c = fault_tells

use Rattle.graph_base.proofs.Registered.{registrations-phasers, registrations-inputs, registrations-outputs, registrations-modes}
use Rattle.graph_base.proofs.laws.registrations.Goals as goal

pub returns-clause-phasers : goal.returns-clause-phasers
returns-clause-phasers c = registrations-phasers

pub returns-clause-inputs : goal.returns-clause-inputs
returns-clause-inputs c = registrations-inputs

pub returns-clause-outputs : goal.returns-clause-outputs
returns-clause-outputs c = registrations-outputs

pub returns-clause-modes : goal.returns-clause-modes
returns-clause-modes c = registrations-modes

-- The signal's event is the task's own, with the sends as its list.
use Rattle.phase_shared.proofs.PartSteps.{signal_sends, signal_received, refused_signal}
use Rattle.phase_shared.proofs.laws.signals.Goals as goal

pub returns-clause-sent : goal.returns-clause-sent
returns-clause-sent g c = signal_sends g.A.Accumulate.operation

pub returns-clause-received : goal.returns-clause-received
returns-clause-received g c = signal_received g.A.Accumulate.operation

pub returns-clause-refused : goal.returns-clause-refused
returns-clause-refused g c = refused_signal g.A.Accumulate.operation

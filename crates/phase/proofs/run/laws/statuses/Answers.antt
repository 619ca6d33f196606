use Rattle.phase.proofs.Asking.{stalled-are-taken, taken-not-refused}
use Rattle.phase.proofs.run.laws.statuses.Goals as goal

pub returns-clause-taken : goal.returns-clause-taken
returns-clause-taken c = taken-not-refused

pub returns-clause-stalled : goal.returns-clause-stalled
returns-clause-stalled c = stalled-are-taken

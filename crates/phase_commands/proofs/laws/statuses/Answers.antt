use Rattle.phase_commands.proofs.Asking.{none-stalled, taken-not-refused}
use Rattle.phase_commands.proofs.laws.statuses.Goals as goal

pub returns-clause-any : goal.returns-clause-any
returns-clause-any c = none-stalled

pub returns-clause-taken : goal.returns-clause-taken
returns-clause-taken c = taken-not-refused

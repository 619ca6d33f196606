use Rattle.watched_io.proofs.Codes.{apart, few}
use Rattle.watched_io.proofs.laws.codes.Goals as goal

pub returns-clause-few : goal.returns-clause-few
returns-clause-few c = few

pub returns-clause-apart : goal.returns-clause-apart
returns-clause-apart c = apart

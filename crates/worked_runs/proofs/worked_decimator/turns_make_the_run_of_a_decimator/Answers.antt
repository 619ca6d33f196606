-- The value that would be next is not there.
use Rattle.std.proofs.Common.{◌<◌, arith}
use Rattle.worked_runs.proofs.worked_decimator.turns_make_the_run_of_a_decimator.Goals as goal

pub returns-clause-puts_none : goal.returns-clause-puts_none
returns-clause-puts_none c = λ v e. (let few : 1 < 1 = e.few in omega (arith, few))

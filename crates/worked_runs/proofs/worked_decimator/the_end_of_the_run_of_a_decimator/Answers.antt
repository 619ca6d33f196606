-- By the laws, at the last moment.
use Rattle.std.proofs.Common.{refl}
use Rattle.worked_runs.specs.WorkedDecimator.{thirds, thirds_end}
use Rattle.worked_runs.proofs.RunTests.{is_over, nowhere_answered}
use Rattle.worked_runs.proofs.WorkedDecimator.{thirds-is, thirds-ready}
use Rattle.worked_runs.proofs.worked_decimator.the_end_of_the_run_of_a_decimator.Goals as goal

pub returns-clause-over : goal.returns-clause-over
returns-clause-over c =
    (is_over thirds thirds_end).sound refl thirds-is c.a_decimator_runs.ensures.end

pub returns-clause-answer : goal.returns-clause-answer
returns-clause-answer c =
    c.answers.ensures thirds thirds_end thirds-ready c.a_decimator_runs.ensures.end
    (returns-clause-over c)
    (c.met_none.ensures thirds thirds_end ((nowhere_answered thirds thirds_end).sound refl))

-- By the laws, at the last moment.
use Rattle.std.proofs.Common.{refl, arith}
use Rattle.worked_runs.specs.Worked.{worked, worked_end}
use Rattle.worked_runs.proofs.RunTests.{is_over, nowhere_answered}
use Rattle.worked_runs.proofs.WorkedRun.{worked-is, worked-ready}
use Rattle.worked_runs.proofs.worked_run.the_end_of_the_run.Goals as goal

pub returns-clause-over : goal.returns-clause-over
returns-clause-over c =
    (is_over worked worked_end).sound refl worked-is
    c.a_run_from_its_opening_to_its_end.ensures.end

pub returns-clause-met_none : goal.returns-clause-met_none
returns-clause-met_none c =
    c.met_none.ensures worked worked_end ((nowhere_answered worked worked_end).sound refl)

pub returns-clause-stream : goal.returns-clause-stream
returns-clause-stream c =
    c.streams.ensures.whole worked worked_end 5 worked-ready
    c.a_run_from_its_opening_to_its_end.ensures.end (omega arith) refl

pub returns-clause-answer : goal.returns-clause-answer
returns-clause-answer c =
    c.answers.ensures worked worked_end worked-ready
    c.a_run_from_its_opening_to_its_end.ensures.end (returns-clause-over c)
    (returns-clause-met_none c)

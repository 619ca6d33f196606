-- The law, at the graph of the worked run.
use Rattle.worked_runs.specs.Worked.{worked}
use Rattle.worked_runs.proofs.WorkedRun.{worked-is}
use Rattle.worked_runs.proofs.worked_turns.the_run_begins.Goals as goal

pub returns-clause-begun : goal.returns-clause-begun
returns-clause-begun c = c.runs_begin.ensures.begun worked worked-is

pub returns-clause-reached : goal.returns-clause-reached
returns-clause-reached c = c.runs_begin.ensures.reached worked worked-is

-- Another task's event leaves a task's part of each history.
use Rattle.graph_runs.proofs.Framed.{part_came, task_later, ended_later}
use Rattle.graph_runs.proofs.moves.others_leave.Goals as goal

pub returns-clause-part : goal.returns-clause-part
returns-clause-part c = part_came

pub returns-clause-task : goal.returns-clause-task
returns-clause-task c = task_later

pub returns-clause-ended : goal.returns-clause-ended
returns-clause-ended c = ended_later

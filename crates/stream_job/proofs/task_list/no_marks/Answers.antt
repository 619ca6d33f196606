-- None of the marks is made.
use Rattle.stream_job.proofs.TaskLists.{none_marked}
use Rattle.stream_job.proofs.task_list.no_marks.Goals as goal

pub returns-clause-none : goal.returns-clause-none
returns-clause-none c = none_marked 64

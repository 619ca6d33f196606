-- Whether a worker has entered the step says nothing of the task.
use Rattle.stream_tasks.proofs.JoinStates.{task_enters}
use Rattle.stream_tasks.proofs.task_state.TaskState.begin_join.Goals as goal

pub returns-in-0 : goal.returns-in-0
returns-in-0 g c = λ spots task.
    c.take_next.ensures spots
    (task_enters c.args.job.now spots c.args.self.now c.enter.new.entered task)

pub returns-in_default : goal.returns-in_default
returns-in_default g c = λ spots task.
    c.take_shares.ensures spots
    (task_enters c.args.job.now spots c.args.self.now c.enter.new.entered task)

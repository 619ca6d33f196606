-- A value that is out of range ends all.
use Rattle.stream_tasks.proofs.task_state.TaskState.turn.Goals as goal

pub returns-in-Value : goal.returns-in-Value
returns-in-Value g c = λ spots task. c.meet.ensures.keeps c.args.job.now spots task.whole

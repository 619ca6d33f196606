-- The list is empty, and has no marks.
use Rattle.std.proofs.Common.{arith}
use Rattle.stream_job.proofs.TaskLists.{empty_list}
use Rattle.stream_job.proofs.task_list.TaskList.clear.Goals as goal

pub invariant_of-self : goal.invariant_of-self
invariant_of-self c =
    let room = c.self.invariant.room in
    let same = c.clear.ensures.capacity in
    empty_list c.clear.new.self c.no_marks-self-inside.result c.clear.ensures.items (omega arith)
    c.no_marks-self-inside.ensures.none c.no_marks-self-inside.ensures.many

-- A new list is empty, and has no marks.
use Rattle.std.proofs.Common.{arith}
use Rattle.stream_job.proofs.TaskLists.{empty_list}
use Rattle.stream_job.proofs.task_list.TaskList.new.Goals as goal

pub invariant_of-result : goal.invariant_of-result
invariant_of-result c =
    let room = c.new.ensures.capacity in
    empty_list c.new.result c.no_marks.result c.new.ensures.items (omega arith)
    c.no_marks.ensures.none c.no_marks.ensures.many

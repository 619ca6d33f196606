-- A list without the task has room for it.
use Rattle.std.proofs.Common.{◌≡◌, sym, ◌∙◌, false, eqb, arith}
use Rattle.std.specs.List.{list_any}
use Rattle.stream_job.proofs.TaskLists.{room_for_one, longer_list}
use Rattle.stream_job.proofs.task_list.TaskList.add.Goals as goal

pub push_reserved-requires : goal.push_reserved-requires
push_reserved-requires c =
    let none : list_any (λ u. eqb u c.args.task) c.self.inside.tasks.items ≡ false =
    sym (c.self.invariant.marked c.args.task) ∙ c.if-not-self-task.true in (
      omega arith,
      room_for_one c.self.inside.tasks c.self.inside.stands c.args.task c.self.invariant c.requires none,
    )

pub invariant_of-self : goal.invariant_of-self
invariant_of-self c =
    let none : list_any (λ u. eqb u c.args.task) c.self.inside.tasks.items ≡ false =
    sym (c.self.invariant.marked c.args.task) ∙ c.if-not-self-task.true in
    longer_list c.self.inside.tasks c.push_reserved.new.self c.self.inside.stands c.args.task
    c.self.invariant c.requires none c.push_reserved.ensures.items c.push_reserved.ensures.capacity

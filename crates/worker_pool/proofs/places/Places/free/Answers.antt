use Rattle.std.proofs.Common.{◌∙◌, sym, subst}
use Rattle.worker_pool.specs.Places.{Tasks}
use Rattle.worker_pool.proofs.Freeing.{frees, keeps, none_freed, HasFreed}
use Rattle.worker_pool.proofs.places.Places.free.Goals as goal
use Rattle.worker_pool.proofs.places.Places.free.Goals.{then-is_freed, else-is_freed}

-- there was no event
pub returns-then-is_empty : goal.returns-then-is_empty
returns-then-is_empty c = λ t within. none_freed c.args.events (c.is_empty.ensures.0 c.if-is_empty.true) _

-- one task more is where the events put it
pub loop-task-preserved : goal.loop-task-preserved
loop-task-preserved c =
    let old : Tasks = c.args.self.now in
    let first = c.in-Some.ensures in
    let done = λ (now : Tasks). HasFreed c.args.events c.remove.new.self old now in
    elim c.if-is_freed.branch [
      | then-is_freed w ↦
          subst done (sym w.self-is)
          (frees c.args.events c.loop-task.rest c.remove.new.self old c.loop-task.self
          c.in-Some.task c.waiting-rest.ensures.apart first.below first.is_in
          c.loop-task.invariant c.remove.ensures.others
          w.put.new.self (sym c.is_freed.ensures ∙ w.if-is_freed.true) w.put.ensures)
      | else-is_freed w ↦
          subst done (sym w.self-is)
          (keeps c.args.events c.loop-task.rest c.remove.new.self old c.loop-task.self
          c.in-Some.task c.waiting-rest.ensures.apart first.below first.is_in
          c.loop-task.invariant c.remove.ensures.others
          (sym c.is_freed.ensures ∙ w.if-is_freed.false))
    ]

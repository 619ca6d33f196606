-- The task has left all its phasers.
use Rattle.std.proofs.Common.{sym, subst}
use Rattle.stream_tasks.specs.TaskLefts.{IsTaskLeft}
use Rattle.stream_tasks.proofs.Gone.{gone_left}
use Rattle.stream_tasks.proofs.task.Task.end.Goals as goal

pub returns : goal.returns
returns g c =
    subst (IsTaskLeft g.J.Run.job g.J.Run.spots) (sym c.end.ensures)
    (gone_left g.J.Run.job g.J.Run.spots c.self.inside.state (c.is_gone.ensures c.if-not-is_gone.false) c.self.invariant.1)

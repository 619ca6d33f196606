-- One that has left is put behind the others.
use Rattle.std.proofs.Common.{sym, subst}
use Rattle.stream_workers.specs.TasksLeft.{AreTasksLeft}
use Rattle.stream_workers.proofs.Grown.{one_more}
use Rattle.stream_workers.proofs.endings.end_one.Goals as goal

pub returns-clause-left : goal.returns-clause-left
returns-clause-left g c = λ are.
    subst (AreTasksLeft g.J.Run.job g.J.Run.spots) (sym c.push_reserved.ensures.items)
    (one_more g.J.Run.job g.J.Run.spots c.reserve.new.self.items c.in_ok-end.end
    (subst (AreTasksLeft g.J.Run.job g.J.Run.spots) (sym c.reserve.ensures.items) are)
    c.in_ok-end.ensures)

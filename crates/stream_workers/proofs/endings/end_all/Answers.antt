-- One task fewer is in the pool, and one more has left. At the end they are turned round.
use Rattle.std.proofs.Common.{refl, sym, subst, arith}
use Rattle.stream_workers.specs.TasksLeft.{AreTasksLeft}
use Rattle.stream_workers.proofs.Grown.{turned_round}
use Rattle.stream_workers.proofs.endings.end_all.Goals as goal

pub loop-place-preserved : goal.loop-place-preserved
loop-place-preserved g c = (
  (
      let before = c.loop-place.invariant.0 in
      let fewer = c.in-Some.ensures.some refl in
      let more = c.in_default-end_one.ensures.many in
      omega arith
      ),
  c.in_default-end_one.ensures.left c.loop-place.invariant.1,
)

pub returns-clause-left : goal.returns-clause-left
returns-clause-left g c =
    subst (AreTasksLeft g.J.Run.job g.J.Run.spots) (sym c.reverse.ensures.items)
    (turned_round g.J.Run.job g.J.Run.spots c.loop-place.ends.items c.loop-place.invariant.1)

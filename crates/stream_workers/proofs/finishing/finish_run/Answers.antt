-- The phasers are those that are meant; founders and tasks have left them.
use Rattle.std.proofs.Common.{sym, subst, ◌∙◌}
use Rattle.stream_tasks.specs.TaskLefts.{IsTaskLeft}
use Rattle.stream_workers.proofs.Lefts.{founders_are}
use Rattle.stream_workers.proofs.finishing.finish_run.Goals as goal

pub finish-requires-clause-left : goal.finish-requires-clause-left
finish-requires-clause-left g c = (
  g.J.Run.spots,
  founders_are c.args.job.now g.J.Run.job g.J.Run.spots c.args.founders.items
      c.in_ok-lefts.lefts.items c.deref.result.now c.requires.job c.in_ok-lefts.ensures.lefts
      (c.deref.ensures.value ∙ c.in_ok-lefts.ensures.gave) c.requires.founders,
  λ t left at. subst (λ j. IsTaskLeft j g.J.Run.spots left) (sym c.requires.job)
      (c.requires.tasks t left at),
)

-- One more agrees.
use Rattle.stream_tasks.specs.Agreeing.{Agrees}
use Rattle.stream_tasks.proofs.Agreed.{below_next}
use Rattle.stream_tasks.proofs.ending.agreeing.all_agree.Goals as goal

pub loop-c-preserved : goal.loop-c-preserved
loop-c-preserved c =
    let here : Agrees c.args.job.now c.args.parts.now c.loop-c.c =
    c.agrees.ensures c.if-not-agrees.false in
    below_next (λ u. Agrees c.args.job.now c.args.parts.now u) c.loop-c.c c.loop-c.invariant here

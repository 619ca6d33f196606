-- One more number stands in its place.
use Rattle.std.proofs.Common.{◌∙◌, arith}
use Rattle.std.proofs.lemmas.List.{length-set}
use Rattle.phase_core.proofs.Missing.{put_more}
use Rattle.phase_core.proofs.late_tasks.LateTasks.write_to.Goals as goal

pub loop-k-preserved : goal.loop-k-preserved
loop-k-preserved c =
    let i = c.loop-k.invariant in (
      put_more c.args.self c.loop-k.rest c.next.new.self c.args.places.now c.loop-k.places c.loop-k.k c.in-Some.number i.0
          c.in-Some.ensures.steps (omega (arith, c.loop-k-test.true)),
      length-set c.loop-k.places c.loop-k.k c.in-Some.number ∙ i.1,
    )

use Rattle.graph_show.specs.Drawings.{wait_arrow}
use Rattle.graph_show.proofs.Growing.{listed-more}
use Rattle.graph_show.proofs.arrows.put_waits.Goals as goal

-- one more
pub loop-p-preserved : goal.loop-p-preserved
loop-p-preserved c =
    listed-more (wait_arrow c.args.graph.now c.args.t) c.args.text.now.items c.loop-p.text.items _
    c.args.phasers.now c.loop-p.p-index c.loop-p-test.true c.loop-p.invariant
    c.in_ok-put_wait.ensures.ok

use Rattle.graph_show.specs.Drawings.{phaser_node}
use Rattle.graph_show.proofs.Growing.{numbered-more}
use Rattle.graph_show.proofs.nodes.put_phasers.Goals as goal

-- one more
pub loop-p-preserved : goal.loop-p-preserved
loop-p-preserved c =
    numbered-more (phaser_node c.args.graph.now) c.args.text.now.items c.loop-p.text.items _
    c.loop-p.p c.loop-p.invariant c.in_ok-put_phaser.ensures.ok

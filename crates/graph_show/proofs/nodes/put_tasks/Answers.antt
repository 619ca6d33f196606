use Rattle.graph_show.specs.Drawings.{task_node}
use Rattle.graph_show.proofs.Growing.{numbered-more}
use Rattle.graph_show.proofs.nodes.put_tasks.Goals as goal

-- one more
pub loop-t-preserved : goal.loop-t-preserved
loop-t-preserved c =
    numbered-more (task_node c.args.graph.now) c.args.text.now.items c.loop-t.text.items _
    c.loop-t.t c.loop-t.invariant c.in_ok-put_task.ensures.ok

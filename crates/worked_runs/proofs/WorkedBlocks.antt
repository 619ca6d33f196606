-- The worked run in blocks: its graph, and the child that joins now.
use Rattle.std.proofs.Common.{refl}
use Rattle.graph_base.specs.TaskLines.{IsGraph}
use Rattle.graph_runs.specs.Settled.{IsReady}
use Rattle.graph_runs.specs.Turned.{IsNextChildNow}
use Rattle.worked_runs.specs.WorkedBlocks.{in_blocks, before_join, by_out_at_3}
use Rattle.worked_runs.proofs.GraphTests.{is_graph}
use Rattle.worked_runs.proofs.NextTests.{is_child_of}
use Rattle.phase_base.specs.declared.mode.Mode.TheVariants.{Wait}

pub in_blocks-is : IsGraph in_blocks.graph
in_blocks-is = (is_graph in_blocks.graph).sound refl

pub in_blocks-ready : IsReady in_blocks
in_blocks-ready = record { graph = in_blocks-is; apart = refl }

-- late is next, and has taken nothing
pub late-next : IsNextChildNow in_blocks before_join 2 1 2 3 3 by_out_at_3
late-next = record {
  child = ((is_child_of in_blocks before_join 2 1 2 3 3 Wait _ refl).sound refl).1;
  now = refl;
  nothing_taken = λ k. refl;
}

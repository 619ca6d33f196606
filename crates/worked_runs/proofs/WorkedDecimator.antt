-- The worked run of a decimator: its graph.
use Rattle.std.proofs.Common.{refl}
use Rattle.graph_base.specs.TaskLines.{IsGraph}
use Rattle.graph_runs.specs.Settled.{IsReady}
use Rattle.worked_runs.specs.WorkedDecimator.{thirds}
use Rattle.worked_runs.proofs.GraphTests.{is_graph}

pub thirds-is : IsGraph thirds.graph
thirds-is = (is_graph thirds.graph).sound refl

pub thirds-ready : IsReady thirds
thirds-ready = record { graph = thirds-is; apart = refl }

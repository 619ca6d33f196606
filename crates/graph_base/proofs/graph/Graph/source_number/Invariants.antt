use Rattle.std.proofs.Common.{◌≡◌, ◌≤◌}
use Rattle.graph_base.specs.Graphs.{source_number}
use Rattle.graph_base.proofs.graph.Graph.source_number.Given as goal

-- the sources above this task
abbrev pub invariant-loop-above : goal.invariant-loop-above
invariant-loop-above l = (l.count ≡ source_number l.self.tasks l.above) × (l.count ≤ l.above)

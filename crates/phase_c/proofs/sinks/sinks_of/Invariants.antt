use Rattle.std.proofs.Common.{◌≡◌, ◌<◌, length}
use Rattle.std.specs.List.{All, filter, range_with_len}
use Rattle.graph_base.specs.Graphs.{is_sink, task_at}
use Rattle.phase_c.proofs.sinks.sinks_of.Given as goal

-- the sinks among the tasks before this one
abbrev pub invariant-loop-t : goal.invariant-loop-t
invariant-loop-t l = record {
  sinks : l.sinks.items ≡ filter (λ t. is_sink (task_at l.graph t).kind) (range_with_len 0 l.t);
  tasks : All (λ t. t < length l.graph.tasks) l.sinks.items;
}

use Rattle.std.proofs.Common.{◌≡◌, ◌<◌, length}
use Rattle.std.specs.List.{All, filter, range_with_len}
use Rattle.graph_base.specs.Graphs.{is_source, task_at}
use Rattle.phase_c.proofs.names.sources_of.Given as goal

-- the sources among the tasks before this one
abbrev pub invariant-loop-t : goal.invariant-loop-t
invariant-loop-t l = record {
  sources : l.sources.items ≡ filter (λ t. is_source (task_at l.graph t).kind) (range_with_len 0 l.t);
  tasks : All (λ t. t < length l.graph.tasks) l.sources.items;
}

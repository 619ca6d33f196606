use Rattle.std.proofs.Common.{◌≡◌, ◌++◌}
use Rattle.std.specs.List.{flat_map, range_with_len}
use Rattle.graph_show.specs.Drawings.{task_node}
use Rattle.graph_show.proofs.nodes.put_tasks.Given as goal

-- the nodes of the tasks before this one stand behind the text
abbrev pub invariant-loop-t : goal.invariant-loop-t
invariant-loop-t l = l.text.items ≡ l.fn.text.items ++ flat_map (task_node l.graph) (range_with_len 0 l.t)

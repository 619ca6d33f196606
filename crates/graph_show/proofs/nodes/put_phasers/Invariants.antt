use Rattle.std.proofs.Common.{◌≡◌, ◌++◌}
use Rattle.std.specs.List.{flat_map, range_with_len}
use Rattle.graph_show.specs.Drawings.{phaser_node}
use Rattle.graph_show.proofs.nodes.put_phasers.Given as goal

-- the nodes of the phasers before this one stand behind the text
abbrev pub invariant-loop-p : goal.invariant-loop-p
invariant-loop-p l = l.text.items ≡ l.fn.text.items ++ flat_map (phaser_node l.graph) (range_with_len 0 l.p)

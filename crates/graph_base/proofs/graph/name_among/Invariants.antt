use Rattle.std.proofs.Common.{◌≡◌}
use Rattle.graph_base.specs.Graphs.{name_among}
use Rattle.graph_base.specs.Names.{names_of}
use Rattle.graph_base.proofs.graph.name_among.Given as goal

-- no name that was passed stands for the place
abbrev pub invariant-loop-name : goal.invariant-loop-name
invariant-loop-name l =
    name_among (names_of l.name-iterator) l.place ≡ name_among (names_of l.names.entries) l.place

-- What the lines that were read so far declare.
use Rattle.graph_base.specs.Graphs.{Graph}
use Rattle.graph_base.specs.GraphFields.{graph_of}
use Rattle.graph_lang.specs.declared.draft.Draft.TheInside.{Inside}

-- the graph that the fields of a draft stand for
abbrev pub draft_view : Inside → Graph
draft_view draft =
    graph_of draft.names.entries draft.phasers.items draft.tasks.items draft.files.items

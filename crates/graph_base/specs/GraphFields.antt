-- What the fields of a graph stand for.
use Rattle.std.specs.Prelude.{List, map, String}
use Rattle.std.specs.Global.{Global}
use Rattle.graph_base.specs.Graphs.{Task, Graph}
use Rattle.graph_base.specs.Names.{names_of, files_of}
use Rattle.graph_base.specs.TaskLines.{IsGraph}
use Rattle.graph_base.specs.declared.line.PhaserLine.{PhaserLine}
use Rattle.graph_base.specs.declared.line.TaskLine.{TaskLine}
use Rattle.graph_base.specs.declared.place.Place.{Place}
use Rattle.graph_base.specs.declared.graph.Graph.TheInside.{Inside}

-- the line of a task, with its lists as lists
abbrev pub task_of : TaskLine → Task
task_of line = record {
  line = line.line;
  kind = line.kind;
  inputs = line.inputs.items;
  outputs = line.outputs.items;
  parent = line.parent;
  until = line.until;
  taps = line.taps.items;
  form = line.form;
  mul = line.mul;
  every = line.every;
  block = line.block;
  joins_now = line.joins_now;
}

-- the graph of these lines, with the file of each source
abbrev pub graph_of :
    List (String Global × Place) → List PhaserLine → List TaskLine → List (String Global) → Graph
graph_of names phasers tasks files = record {
  names = names_of names;
  phasers = phasers;
  tasks = map task_of tasks;
  files = files_of files;
}

-- the graph that the fields of the code hold
abbrev pub graph_view : Inside → Graph
graph_view graph =
    graph_of graph.names.entries graph.phasers.items graph.tasks.items graph.files.items

-- what holds of the fields of every graph
abbrev pub IsGraphInside : Inside → Type 0
IsGraphInside graph = IsGraph (graph_view graph)

-- What stands for a run where none is meant.
use Rattle.std.specs.Prelude.{[]}
use Rattle.graph_base.specs.Graphs.{no_graph}
use Rattle.stream_lists.specs.Jobs.{Job}

-- a job of no tasks
abbrev pub no_job : Job
no_job = record { graph = no_graph; samples = []; starts = [] }

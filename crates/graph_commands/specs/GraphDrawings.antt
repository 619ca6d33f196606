-- What a drawing of a graph writes, and why its file tells none. No file is read but the graph's.
use Rattle.std.specs.Prelude.{ℕ, List}
use Rattle.std.specs.Io.KnownBytes.{Appends}
use Rattle.graph_base.specs.Graphs.{Graph}
use Rattle.graph_show.specs.Drawings.{drawing}
use Rattle.graph_commands.specs.FileJobs.{IsFaultOf, IsGraphOf, Known}
use Rattle.graph_commands.specs.declared.fault.JobFault.{JobFault}
use Rattle.graph_commands.specs.declared.fault.JobFault.TheVariants as fault
use Rattle.graph_commands.specs.declared.graph_file.TheConstants.{GRAPH_MAX}
use Rattle.watched_io.specs.Files.{MayBeRefused, MayNeedMemory}
use Rattle.watched_io.specs.Prefix.{AppendsPrefix}
use Rattle.watched_io.specs.States.{WriterState}

-- why the file of this name tells no graph; memory may run out only over one that is not too long
abbrev pub ExplainsNoGraph : Known → List ℕ → JobFault → Type 0
ExplainsNoGraph known name (fault.Graph found) = IsFaultOf known name found
ExplainsNoGraph known name (fault.BadSample source n told) = ⊥
ExplainsNoGraph known name fault.ReadFault = MayBeRefused GRAPH_MAX (known name)
ExplainsNoGraph known name fault.OutOfMemory = MayNeedMemory GRAPH_MAX (known name)

-- the file tells a graph, and its drawing was written
pub record Draws (known : Known) (name : List ℕ) (old new : WriterState) : Type 0 where
  pub graph : Graph
  pub graph_of : IsGraphOf known name graph
  pub written : Appends old.written new.written (drawing graph)

-- the file tells a graph, and a prefix of its drawing was written
pub record DrawsPrefix (known : Known) (name : List ℕ) (old new : WriterState) : Type 0 where
  pub graph : Graph
  pub graph_of : IsGraphOf known name graph
  pub written : AppendsPrefix old.written new.written (drawing graph)

-- The job of a graph's file and of the files of its sources. What a file holds is told by its name,
-- where it is known beforehand.
use Rattle.std.specs.Prelude.{ℕ, ◌≡◌, ◌<◌, ◌≤◌, ◌⊎◌, List, [], length, get_or, ℤ, true, Ok, Err, Some, None, IfSome, Vec, string_bytes}
use Rattle.std.specs.Global.{Global}
use Rattle.std.specs.declared.option.Option.{Option}
use Rattle.graph_text.specs.Texts.{lines_of}
use Rattle.graph_base.specs.Graphs.{Graph, task_at, file_at, name_at, is_source, source_number, sources_of}
use Rattle.graph_lang.specs.Reads.{ReadsText}
use Rattle.graph_lang.specs.declared.fault.FaultKind.TheVariants.{AnyMeets}
use Rattle.graph_lang.specs.declared.fault.GraphFault.{GraphFault}
use Rattle.graph_base.specs.declared.place.Place.TheVariants as place
use Rattle.watched_io.specs.Files.{HasBytes, MayBeRefused, MayNeedMemory}
use Rattle.graph_lang.specs.Samples.{AreSamplesOf, IsBadShortSample}
use Rattle.graph_lang.specs.declared.sample.TheConstants.{TEXT_MAX}
use Rattle.stream_lists.specs.Jobs.{Job}
use Rattle.stream_lists.specs.Meetings.{meeting_line}
use Rattle.graph_commands.specs.Explained.{TellsPlace}
use Rattle.graph_commands.specs.declared.fault.JobFault.{JobFault}
use Rattle.graph_commands.specs.declared.fault.JobFault.TheVariants as fault
use Rattle.graph_commands.specs.declared.graph_file.TheConstants.{GRAPH_MAX}

-- what is known of each file, by its name
abbrev pub Known : Type 0
Known = List ℕ → Option (List ℕ)

-- ---- the graph

-- the graph is what the lines of the file's text declare
pub record IsGraphOf (known : Known) (name : List ℕ) (graph : Graph) : Type 0 where
  pub text : List ℕ
  pub bytes : HasBytes (known name) text
  pub short : length text ≤ GRAPH_MAX
  pub reads : ReadsText (lines_of text) (Ok graph)

-- it is the first fault of the lines of the file's text
pub record IsFaultOf (known : Known) (name : List ℕ) (found : GraphFault) : Type 0 where
  pub text : List ℕ
  pub bytes : HasBytes (known name) text
  pub short : length text ≤ GRAPH_MAX
  pub reads : ReadsText (lines_of text) (Err found)

-- ---- the samples

-- the samples of the first sources, each those of its file's text
abbrev pub AreFirstSamples : Known → Graph → List (List ℤ) → Type 0
AreFirstSamples known graph samples =
    (s : ℕ) → s < length samples → AreSamplesOf (known (file_at graph s)) (get_or samples s [])

-- the samples of each source
pub record AreSamples (known : Known) (graph : Graph) (samples : List (List ℤ)) : Type 0 where
  pub each : length samples ≡ sources_of graph
  pub samples_of : AreFirstSamples known graph samples

-- the file of a source
abbrev pub file_of : Graph → ℕ → List ℕ
file_of graph t = file_at graph (source_number graph.tasks t)

-- the graph of the file was read, and the samples of the sources above task t, which is a source
pub record IsReached (known : Known) (name : List ℕ) (graph : Graph) (t : ℕ) : Type 0 where
  pub graph_of : IsGraphOf known name graph
  pub task : t < length graph.tasks
  pub source : is_source (task_at graph t).kind ≡ true
  pub samples : List (List ℤ)
  pub above : length samples ≡ source_number graph.tasks t
  pub samples_of : AreFirstSamples known graph samples

-- ---- the job

-- the job is the one that the files tell: its sinks that join now begin at the least phase that
-- they may
pub record IsJobOf (known : Known) (name : List ℕ) (job : Job) : Type 0 where
  pub graph_of : IsGraphOf known name job.graph
  pub samples_of : AreSamples known job.graph job.samples
  pub apart : meeting_line job ≡ None
  pub least : job.starts ≡ []

-- the files tell a job of which the task of this line meets one of an earlier line
pub record MeetsAt (known : Known) (name : List ℕ) (line : ℕ) : Type 0 where
  pub job : Job
  pub graph_of : IsGraphOf known name job.graph
  pub samples_of : AreSamples known job.graph job.samples
  pub meets : meeting_line job ≡ Some line

-- the file of the source of this name has a bad record of this number, of which this is told
pub record HasBadRecord (known : Known) (name source : List ℕ) (n : ℕ)
    (told : Option (Vec ℕ Global)) : Type 0 where
  pub graph : Graph
  pub task : ℕ
  pub reached : IsReached known name graph task
  pub named : source ≡ name_at graph (place.Task task)
  pub text : List ℕ
  pub bytes : HasBytes (known (file_of graph task)) text
  pub bad : IsBadShortSample n text
  pub tells : IfSome told (λ front. TellsPlace text (file_of graph task) n front.items)

-- a file of a source may be refused: it is too long, or nothing is known of it
pub record IsSourceRefused (known : Known) (name : List ℕ) : Type 0 where
  pub graph : Graph
  pub task : ℕ
  pub reached : IsReached known name graph task
  pub refused : MayBeRefused TEXT_MAX (known (file_of graph task))

-- why the files of this name tell no job; memory may run out only over a graph that is not too long
abbrev pub Explains : Known → List ℕ → JobFault → Type 0
Explains known name (fault.Graph found) =
    IsFaultOf known name found ⊎ ((found.kind ≡ AnyMeets) × MeetsAt known name found.line)
Explains known name (fault.BadSample source n told) =
    HasBadRecord known name (string_bytes source) n told
Explains known name fault.ReadFault =
    MayBeRefused GRAPH_MAX (known name) ⊎ IsSourceRefused known name
Explains known name fault.OutOfMemory = MayNeedMemory GRAPH_MAX (known name)

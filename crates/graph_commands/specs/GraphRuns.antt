-- What a check and an evaluation of a graph write, and the lines of the faults of commands.
use Rattle.std.specs.Prelude.{◌≡◌, ◌≢◌, ℕ, ◌&&◌, List, [], ◌∷◌, length, map, codes, decimal, Some, None, string_bytes}
use Rattle.std.specs.List.{concat, find, range_with_len}
use Rattle.std.specs.Str.{bytes_eq}
use Rattle.std.specs.Io.KnownBytes.{Appends}
use Rattle.std.specs.declared.option.Option.{Option}
use Rattle.graph_show.specs.Explanations.{shown}
use Rattle.graph_base.specs.Graphs.{Graph, name_at}
use Rattle.graph_lang.specs.declared.fault.FaultKind.{FaultKind}
use Rattle.graph_lang.specs.declared.fault.FaultKind.TheVariants.{Syntax, Limit, Twice, Unknown, OutBeforeIn, BadParent, NotHeld, OverBound, AnyMeets}
use Rattle.graph_base.specs.declared.place.Place.TheVariants as place
use Rattle.stream_lists.specs.Jobs.{Job}
use Rattle.stream_lists.specs.Lists.{is_sink_at, lines_of, with_start}
use Rattle.stream_lists.specs.Ranges.{Fits}
use Rattle.graph_commands.specs.ColumnTexts.{columns_text}
use Rattle.graph_commands.specs.OutputTexts.{lines_text}
use Rattle.graph_commands.specs.FileJobs.{IsJobOf, Known}
use Rattle.graph_commands.specs.declared.fault.JobFault.{JobFault}
use Rattle.graph_commands.specs.declared.fault.JobFault.TheVariants as fault
use Rattle.watched_io.specs.declared.fault.IoFault.TheVariants.{OutOfMemory, ReadFault}
use Rattle.watched_io.specs.Prefix.{AppendsPrefix}
use Rattle.watched_io.specs.States.{WriterState}
use Rattle.watched_io.specs.Statuses.{fault_line}
use Rattle.watched_io.specs.declared.status.Status.{Status}
use Rattle.watched_io.specs.declared.status.Status.TheVariants.{Failed, GraphRefused}

-- ---- what is written

-- how many phasers and tasks the graph has
abbrev pub check_line : Graph → List ℕ
check_line graph = concat (
    codes "ok phasers " ∷ decimal (length graph.phasers)
    ∷ codes " tasks " ∷ decimal (length graph.tasks) ∷ codes "\n" ∷ [])

-- the sink of this name, by its number, where there is one
abbrev pub sink_named : Job → List ℕ → Option ℕ
sink_named job name =
    find (λ t. is_sink_at job t && bytes_eq (name_at job.graph (place.Task t)) name)
    (range_with_len 0 (length job.graph.tasks))

-- the text of each sink of a job, of one that joins now with its start; or the values of one sink
-- alone
abbrev pub sinks_text : Job → Option ℕ → List ℕ
sinks_text job sink = lines_text job.graph (map (with_start job) (lines_of job)) sink

-- what is asked for, all sinks or the one of a name, is this: all of them, or the sink of this
-- number
abbrev pub AsksSink : Job → Option (List ℕ) → Option ℕ → Type 0
AsksSink job None sink = sink ≡ None
AsksSink job (Some name) sink = (sink ≢ None) × (sink_named job name ≡ sink)

-- the files tell a job whose values fit, and the lists of the sinks that were asked for were
-- written
pub record Evaluates (known : Known) (name : List ℕ) (asked : Option (List ℕ))
    (old new : WriterState) : Type 0 where
  pub job : Job
  pub job_of : IsJobOf known name job
  pub fits : Fits job
  pub sink : Option ℕ
  pub asks : AsksSink job asked sink
  pub written : Appends old.written new.written (sinks_text job sink)

-- the files tell a job whose values fit, and a prefix of these lists was written
pub record EvaluatesPrefix (known : Known) (name : List ℕ) (asked : Option (List ℕ))
    (old new : WriterState) : Type 0 where
  pub job : Job
  pub job_of : IsJobOf known name job
  pub fits : Fits job
  pub sink : Option ℕ
  pub asks : AsksSink job asked sink
  pub written : AppendsPrefix old.written new.written (sinks_text job sink)

-- the files tell a job whose values fit, and the table of its sinks was written
pub record EvaluatesColumns (known : Known) (name : List ℕ) (old new : WriterState) : Type 0 where
  pub job : Job
  pub job_of : IsJobOf known name job
  pub fits : Fits job
  pub written : Appends old.written new.written (columns_text job (lines_of job))

-- the files tell a job whose values fit, and a prefix of that table was written
pub record EvaluatesColumnsPrefix (known : Known) (name : List ℕ) (old new : WriterState)
    : Type 0 where
  pub job : Job
  pub job_of : IsJobOf known name job
  pub fits : Fits job
  pub written : AppendsPrefix old.written new.written (columns_text job (lines_of job))

-- ---- the lines of faults

-- the word for a kind of fault
abbrev pub kind_text : FaultKind → List ℕ
kind_text Syntax = codes "syntax"
kind_text Limit = codes "limit"
kind_text Twice = codes "twice"
kind_text Unknown = codes "unknown"
kind_text OutBeforeIn = codes "out-before-in"
kind_text BadParent = codes "bad-parent"
kind_text NotHeld = codes "not-held"
kind_text OverBound = codes "over-bound"
kind_text AnyMeets = codes "any-meets"

-- the line of the fault of a line of a graph
abbrev pub graph_line : ℕ → FaultKind → List ℕ
graph_line line kind = concat (
    codes "phase: graph line " ∷ decimal line ∷ codes ": " ∷ kind_text kind ∷ codes "\n" ∷ [])

-- the line of a record of a source that is no sample
abbrev pub samples_line : List ℕ → ℕ → List ℕ
samples_line name number = concat (
    codes "phase: samples of " ∷ name ∷ codes ": record " ∷ decimal number ∷ codes "\n" ∷ [])

-- the line of a value that is out of range, by its phaser or task and its number there
abbrev pub too_big_line : List ℕ → ℕ → List ℕ
too_big_line name n = concat (
    codes "phase: too big at " ∷ name ∷ codes " " ∷ decimal n ∷ codes "\n" ∷ [])

-- a name that no sink has, as it is told: a question mark for each byte that is none of a line
abbrev pub told_name : List ℕ → List ℕ
told_name name = map shown name

-- the line of a name that no sink has
abbrev pub no_sink_line : List ℕ → List ℕ
no_sink_line name = concat (codes "phase: no sink " ∷ told_name name ∷ codes "\n" ∷ [])

-- the line of a fault of the files
abbrev pub job_line : JobFault → List ℕ
job_line (fault.Graph found) = graph_line found.line found.kind
job_line (fault.BadSample name number told) = samples_line (string_bytes name) number
job_line fault.ReadFault = fault_line ReadFault
job_line fault.OutOfMemory = fault_line OutOfMemory

-- the status of a fault of the files
abbrev pub job_status : JobFault → Status
job_status (fault.Graph found) = GraphRefused
job_status (fault.BadSample name number told) = GraphRefused
job_status fault.ReadFault = Failed
job_status fault.OutOfMemory = Failed

-- the line of a run that is told as stalled
abbrev pub stalled_line : List ℕ
stalled_line = codes "phase: stalled\n"

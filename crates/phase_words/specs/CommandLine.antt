-- What the words of a command line ask for, by what clap makes of them. The program's own name is
-- not among them.
use Rattle.std.specs.Prelude.{◌≡◌, ◌≢◌, ◌⊎◌, ◌&&◌, ◌||◌, Bool, true, false, is_some, List, [], ◌∷◌, Option, Some, None}
use Rattle.std.specs.Prelude.{String, codes, if◌then◌else◌, map, option_map, string_bytes, unwrap_or, ⊤}
use Rattle.std.specs.Str.{bytes_eq}
use Rattle.clap.specs.Words.{App, IsAmong, Kinds, Row, Rule, Shape, Text, fault_of, first_of}
use Rattle.clap.specs.Words.{new_app, new_rule, subcommand_of, with_rule, with_subcommand}
use Rattle.clap.specs.declared.builder.action.ArgAction.TheVariants.{SetTrue}
use Rattle.clap.specs.declared.builder.value_parser.ValueParser.TheVariants as vp
use Rattle.clap.specs.declared.error.kind.ErrorKind.{ErrorKind}
use Rattle.clap.specs.Kinds.{or_else}
use Rattle.clap.specs.declared.error.kind.ErrorKind.TheVariants.{ArgumentConflict, DisplayHelp, DisplayVersion}
use Rattle.phase_words.specs.declared.call.Call.{Call}
use Rattle.phase_words.specs.declared.call.Call.TheVariants as call
use Rattle.phase_words.specs.declared.call.TheConstants.{WORKERS_MAX}
use Rattle.watched_io.specs.declared.explain.Explain.{Explain}
use Rattle.watched_io.specs.declared.explain.Explain.TheVariants.{No, Yes}
use Rattle.phase_words.specs.declared.call.Strict.{Strict}
use Rattle.phase_words.specs.declared.call.Strict.TheVariants as strictly
use Rattle.phase_words.specs.declared.call.NoCall.{NoCall}
use Rattle.phase_words.specs.declared.call.NoCall.TheVariants as no_call

-- ---- the command line

-- the words of the command leave out the program's own name
abbrev pub without_own_name : App → App
without_own_name app = record app { top = record app.top { no_binary_name = true } }

-- the words may ask for the version
abbrev pub with_version : App → App
with_version app = record app { top = record app.top { has_version = true } }

-- the name of a graph's file, which has to be given
abbrev pub graph_rule : Rule
graph_rule = record (new_rule (codes "graph")) { required = true; value_names = 1 }

-- a command with one word, the name of a graph's file
abbrev pub graph_app : Text → App
graph_app name = with_rule (new_app name) graph_rule

-- and its words as clap keeps them
abbrev pub graph_shape : Text → Shape
graph_shape name = (graph_app name).top

-- the name of a sink, which may be given behind `--sink`
abbrev pub sink_rule : Rule
sink_rule = record (new_rule (codes "sink")) { long = Some (codes "sink"); value_names = 1 }

-- the word `--columns`, which may be given
abbrev pub columns_rule : Rule
columns_rule =
    record (new_rule (codes "columns")) { long = Some (codes "columns"); action = Some SetTrue }

-- the word `--beside`, which may be given
abbrev pub beside_rule : Rule
beside_rule =
    record (new_rule (codes "beside")) { long = Some (codes "beside"); action = Some SetTrue }

-- the word `--explain`, which may be given
abbrev pub explain_rule : Rule
explain_rule =
    record (new_rule (codes "explain")) { long = Some (codes "explain"); action = Some SetTrue }

-- the number of workers, which may be given behind `--workers`: from 1 to 16, in decimal digits
abbrev pub workers_rule : Rule
workers_rule = record (new_rule (codes "workers")) {
  long = Some (codes "workers");
  value_names = 1;
  parser = Some (vp.Unsigned 1 WORKERS_MAX);
}

-- the command `check`
abbrev pub check_shape : Shape
check_shape = (with_rule (with_rule (graph_app (codes "check")) beside_rule) explain_rule).top

-- the command `eval`
abbrev pub eval_shape : Shape
eval_shape = (with_rule (with_rule (with_rule (with_rule (with_rule (graph_app (codes "eval"))
    sink_rule) columns_rule) beside_rule) workers_rule) explain_rule).top

-- the command `draw`
abbrev pub draw_shape : Shape
draw_shape = (with_rule (graph_app (codes "draw")) explain_rule).top

-- the name of a script's file, which may be given
abbrev pub script_rule : Rule
script_rule = record (new_rule (codes "script")) { value_names = 1 }

-- the word `--strict`, which may be given
abbrev pub strict_rule : Rule
strict_rule =
    record (new_rule (codes "strict")) { long = Some (codes "strict"); action = Some SetTrue }

-- the command `replay`
abbrev pub replay_shape : Shape
replay_shape = (with_rule (with_rule (new_app (codes "replay")) script_rule) strict_rule).top

-- the program, with its commands `replay`, `check`, `eval` and `draw`
unfoldable pub phase_app : App
phase_app =
    with_subcommand (with_subcommand (with_subcommand (with_subcommand (with_version
    (without_own_name (new_app (codes "phase")))) replay_shape)
    check_shape) eval_shape) draw_shape

-- ---- what the words ask for

-- whether a flag stands there, by the value that clap gives it, or none
abbrev pub is_given : Option Text → Bool
is_given None = false
is_given (Some value) = bytes_eq value (codes "true")

-- whether `--sink` or `--workers` stands there, by what clap found for a command's words
abbrev pub names_other : List Row → Bool
names_other rows =
    is_some (first_of (codes "sink") rows) || is_some (first_of (codes "workers") rows)

-- whether one of them stands there with `--columns`
abbrev pub has_both : List Row → Bool
has_both rows = is_given (first_of (codes "columns") rows) && names_other rows

-- whether they do behind the command that it found
abbrev pub has_conflict : Option (Text × List Row) → Bool
has_conflict None = false
has_conflict (Some command) = has_both command.1

-- they are refused together, as clap refuses words in conflict
abbrev pub conflict_kinds : Bool → Kinds
conflict_kinds both = if both then ArgumentConflict ∷ [] else []

-- the kinds of answer that may be given in place of taking the words; a call for help is one, and
-- so is one for the version
unfoldable pub kinds_of : List Text → Kinds
kinds_of words =
    or_else (fault_of phase_app words)
    (conflict_kinds (has_conflict (subcommand_of phase_app words)))

-- clap takes the words: they ask for no help and no version, and nothing is refused
abbrev pub AreTaken : List Text → Type 0
AreTaken words = kinds_of words ≡ []

-- the words ask for help, and for nothing else
abbrev pub AskHelp : List Text → Type 0
AskHelp words = kinds_of words ≡ DisplayHelp ∷ []

-- the words ask for the version, and for nothing else
abbrev pub AskVersion : List Text → Type 0
AskVersion words = kinds_of words ≡ DisplayVersion ∷ []

-- an answer of this kind is what was asked for, help or the version, and no refusal
abbrev pub IsShown : ErrorKind → Type 0
IsShown kind = (kind ≡ DisplayHelp) ⊎ (kind ≡ DisplayVersion)

-- answers of these kinds, of which there is one, ask for no help and no version
abbrev pub Refuse : Kinds → Type 0
Refuse kinds = (kinds ≢ []) × ((kind : ErrorKind) → IsShown kind → IsAmong kind kinds → ⊥)

-- the words are refused: they are not taken, and ask for no help and no version
abbrev pub AreRefused : List Text → Type 0
AreRefused words = Refuse (kinds_of words)

-- what words that are taken ask for: a replay of standard input, or of the script in a file, also
-- one that ends at the first line that is refused; a check of a graph's file, its evaluation, for
-- all its sinks, for the one of a name or as columns, or its drawing, also with a fault explained;
-- but for a drawing also with the files of its sources opened beside it. By how many workers an
-- evaluation is asked for makes no difference
pub data Asked : Type 0 where
  replay : Asked
  replay_file : Strict → Text → Asked
  check : Bool → Explain → Text → Asked
  eval : Bool → Explain → Text → Option Text → Asked
  columns : Bool → Explain → Text → Asked
  draw : Explain → Text → Asked

-- whether `--explain` stands there, by the value that clap gives it, or none
abbrev pub explain_of : Option Text → Explain
explain_of None = No
explain_of (Some value) = if bytes_eq value (codes "true") then Yes else No

-- whether `--strict` stands there, by the value that clap gives it, or none
abbrev pub strict_of : Option Text → Strict
strict_of None = strictly.No
strict_of (Some value) = if bytes_eq value (codes "true") then strictly.Yes else strictly.No

-- a replay of the script of this name, which is standard input where it is `-`
abbrev pub replay_by : Strict → Text → Asked
replay_by strictly.No name =
    if bytes_eq name (codes "-") then replay else replay_file strictly.No name
replay_by strictly.Yes name = replay_file strictly.Yes name

-- an evaluation as columns, or of all sinks or one
abbrev pub eval_as : Bool → Bool → Explain → Text → Option Text → Asked
eval_as true beside explain graph sink = columns beside explain graph
eval_as false beside explain graph sink = eval beside explain graph sink

-- by the command and the words that are given to it
abbrev pub asked_as : Text → Option Text → Option Text → Bool → Bool → Explain → Asked
asked_as name graph sink as_columns beside explain =
    if bytes_eq name (codes "check") then check beside explain (unwrap_or graph [])
    else if bytes_eq name (codes "eval") then
    eval_as as_columns beside explain (unwrap_or graph []) sink
    else if bytes_eq name (codes "draw") then draw explain (unwrap_or graph [])
    else replay

-- by what clap found for the words of `replay`
abbrev pub replay_with : List Row → Asked
replay_with rows =
    replay_by (strict_of (first_of (codes "strict") rows))
    (unwrap_or (first_of (codes "script") rows) (codes "-"))

-- by a command on a graph, and what clap found for its words
abbrev pub graph_call_with : Text → List Row → Asked
graph_call_with name rows =
    asked_as name (first_of (codes "graph") rows) (first_of (codes "sink") rows)
    (is_given (first_of (codes "columns") rows)) (is_given (first_of (codes "beside") rows))
    (explain_of (first_of (codes "explain") rows))

-- by a command, and what clap found for its words
abbrev pub asked_with : Text → List Row → Asked
asked_with name rows =
    if bytes_eq name (codes "replay") then replay_with rows else graph_call_with name rows

-- with no command a replay is asked for
abbrev pub asked_by : Option (Text × List Row) → Asked
asked_by None = replay
asked_by (Some command) = asked_with command.0 command.1

-- what the words ask for, by the command that clap finds in them
unfoldable pub asked_in : List Text → Asked
asked_in words = asked_by (subcommand_of phase_app words)

-- clap takes the words, and they ask for this
pub record Asks (words : List Text) (what : Asked) : Type 0 where
  pub taken : AreTaken words
  pub command : asked_in words ≡ what

-- the words ask for a replay
abbrev pub AskReplay : List Text → Type 0
AskReplay words = Asks words replay

-- the words ask for a replay of the script in the file of this name
abbrev pub AskReplayFile : List Text → Text → Type 0
AskReplayFile words name = Asks words (replay_file strictly.No name)

-- the words ask for a replay of it that ends at the first line that is refused
abbrev pub AskReplayStrictly : List Text → Text → Type 0
AskReplayStrictly words name = Asks words (replay_file strictly.Yes name)

-- the words ask for a check of the graph in the file of this name
abbrev pub AskCheck : List Text → Text → Type 0
AskCheck words name = Asks words (check false No name)

-- the words ask for an evaluation of the graph in the file of this name, for all its sinks, or for
-- the one of this name
abbrev pub AskEval : List Text → Text → Option Text → Type 0
AskEval words name sink = Asks words (eval false No name sink)

-- the words ask for an evaluation of it whose sinks are the columns of a table
abbrev pub AskColumns : List Text → Text → Type 0
AskColumns words name = Asks words (columns false No name)

-- the words ask for a drawing of the graph in the file of this name
abbrev pub AskDraw : List Text → Text → Type 0
AskDraw words name = Asks words (draw No name)

-- the words ask for a check, and for an explanation of a fault
abbrev pub AskCheckExplained : List Text → Text → Type 0
AskCheckExplained words name = Asks words (check false Yes name)

-- the words ask for an evaluation, and for an explanation of a fault
abbrev pub AskEvalExplained : List Text → Text → Option Text → Type 0
AskEvalExplained words name sink = Asks words (eval false Yes name sink)

-- the words ask for such columns, and for an explanation of a fault
abbrev pub AskColumnsExplained : List Text → Text → Type 0
AskColumnsExplained words name = Asks words (columns false Yes name)

-- the words ask for a drawing, and for an explanation of a fault
abbrev pub AskDrawExplained : List Text → Text → Type 0
AskDrawExplained words name = Asks words (draw Yes name)

-- the name of the file, of a script or of a graph, of which something is asked for
abbrev pub file_asked : Asked → Option Text
file_asked replay = None
file_asked (replay_file strict name) = Some name
file_asked (check beside explain name) = Some name
file_asked (eval beside explain name sink) = Some name
file_asked (columns beside explain name) = Some name
file_asked (draw explain name) = Some name

-- the words ask for something of the script or the graph in the file of this name
pub record AskFile (words : List Text) (name : Text) : Type 0 where
  pub what : Asked
  pub asks : Asks words what
  pub named : file_asked what ≡ Some name

-- what a call asks for
abbrev pub asked_of : Call → Asked
asked_of call.Replay = replay
asked_of (call.ReplayFile script strict) = replay_file strict script.now
asked_of (call.Check graph explain beside) = check beside explain graph.now
asked_of (call.Eval graph sink explain beside) =
    eval beside explain graph.now (option_map (λ s. s.now) sink)
asked_of (call.Columns graph explain beside) = columns beside explain graph.now
asked_of (call.Draw graph explain) = draw explain graph.now

-- the words as texts
abbrev pub texts : {Z : Type 0} → List (String Z) → List Text
texts words = map string_bytes words

-- ---- why there is no call

-- a kind of refusal, which is no call for help or for the version, is among the kinds
pub record HasRefusal (kinds : Kinds) : Type 0 where
  pub kind : ErrorKind
  pub among : IsAmong kind kinds
  pub other : IsShown kind → ⊥

-- a call for help or for the version is among them
pub record HasShown (kinds : Kinds) : Type 0 where
  pub kind : ErrorKind
  pub among : IsAmong kind kinds
  pub shown : IsShown kind

-- why words whose answers have these kinds give no call: they ask for help or for the version, or
-- something in them is refused; memory may run out over any words
abbrev pub ExplainsNone : Kinds → NoCall → Type 0
ExplainsNone kinds (no_call.Shown text) = HasShown kinds
ExplainsNone kinds (no_call.Refused text) = HasRefusal kinds
ExplainsNone kinds no_call.OutOfMemory = ⊤

-- why the words give no call
abbrev pub IsNoCall : List Text → NoCall → Type 0
IsNoCall words none = ExplainsNone (kinds_of words) none

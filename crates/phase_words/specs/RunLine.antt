-- What the words behind `phase run`, and behind `phase eval` by workers, ask for, by what clap
-- makes of them.
use Rattle.std.specs.Prelude.{◌≡◌, ℕ, Bool, false, List, [], ◌∷◌, Option, Some, None, codes, if◌then◌else◌, option_map}
use Rattle.std.specs.Str.Parse.{digits_value, without_leading_plus}
use Rattle.clap.specs.ValueTests.{is_unsigned_in}
use Rattle.clap.specs.Words.{App, Kinds, Row, Rule, Text, fault_of, first_of, matches_of, new_rule, with_rule}
use Rattle.clap.specs.declared.builder.action.ArgAction.TheVariants.{SetTrue}
use Rattle.clap.specs.declared.error.kind.ErrorKind.TheVariants.{DisplayHelp}
use Rattle.phase_words.specs.CommandLine.{Refuse, explain_of, explain_rule, is_given, workers_rule}
use Rattle.phase_words.specs.SinkLine.{graph_by, sink_app}
use Rattle.watched_io.specs.declared.explain.Explain.{Explain}
use Rattle.watched_io.specs.declared.explain.Explain.TheVariants.{No, Yes}
use Rattle.phase_words.specs.declared.call.RunCall.{RunCall}
use Rattle.phase_words.specs.declared.call.TheConstants.{WORKERS, WORKERS_MAX}

-- ---- the command line

-- the word `--counts`, which may be given
abbrev pub counts_rule : Rule
counts_rule =
    record (new_rule (codes "counts")) { long = Some (codes "counts"); action = Some SetTrue }

-- the words behind `phase eval` by workers: a graph's file, a sink, `--beside`, a number of workers
-- and `--explain`
unfoldable pub workers_app : App
workers_app = with_rule (with_rule sink_app workers_rule) explain_rule

-- the words behind `phase run`: these, and `--counts`
unfoldable pub run_app : App
run_app = with_rule (with_rule (with_rule sink_app workers_rule) explain_rule) counts_rule

-- ---- what the words ask for

-- the kinds of answer that clap may give in place of taking the words
unfoldable pub run_kinds_of : List Text → Kinds
run_kinds_of words = fault_of run_app words

-- clap takes the words: they ask for no help and no version, and nothing is refused
abbrev pub AreRunTaken : List Text → Type 0
AreRunTaken words = run_kinds_of words ≡ []

-- the words ask for help, and for nothing else
abbrev pub AskRunHelp : List Text → Type 0
AskRunHelp words = run_kinds_of words ≡ DisplayHelp ∷ []

-- the words are refused: they are not taken, and ask for no help and no version
abbrev pub AreRunRefused : List Text → Type 0
AreRunRefused words = Refuse (run_kinds_of words)

-- how many workers a word names: as many as it says, from 1 to 16, and 4 where it says none of
-- these
abbrev pub workers_named : Text → ℕ
workers_named word =
    if is_unsigned_in 1 WORKERS_MAX word then digits_value 10 (without_leading_plus word)
    else WORKERS

-- and 4 where there is no word
abbrev pub workers_of : Option Text → ℕ
workers_of None = WORKERS
workers_of (Some word) = workers_named word

-- a run of the graph in the file of a name by so many workers, for all its sinks, or for the one of
-- a name, with an explanation of a fault or without, with the files of its sources opened beside it
-- or not, and with what each task did told at its end or not
pub record Run : Type 0 where
  pub graph : Text
  pub sink : Option Text
  pub workers : ℕ
  pub explain : Explain
  pub beside : Bool
  pub counts : Bool

-- by what clap finds in the words
abbrev pub run_by : List Row → Run
run_by rows = record {
  graph = graph_by rows;
  sink = first_of (codes "sink") rows;
  workers = workers_of (first_of (codes "workers") rows);
  explain = explain_of (first_of (codes "explain") rows);
  beside = is_given (first_of (codes "beside") rows);
  counts = is_given (first_of (codes "counts") rows);
}

-- the run that the words ask for, by what clap finds in them
unfoldable pub run_in : List Text → Run
run_in words = run_by (matches_of run_app words)

-- clap takes the words, and they ask for this run
pub record AsksRun (words : List Text) (what : Run) : Type 0 where
  pub taken : AreRunTaken words
  pub run : run_in words ≡ what

-- the words ask for a run of the graph in the file of this name by so many workers, for all its
-- sinks, or for the one of this name, without an explanation of a fault
abbrev pub AskRun : List Text → Text → Option Text → ℕ → Type 0
AskRun words name sink workers =
    AsksRun words (record {
      graph = name;
      sink = sink;
      workers = workers;
      explain = No;
      beside = false;
      counts = false;
    })

-- and such a run with an explanation of a fault
abbrev pub AskRunExplained : List Text → Text → Option Text → ℕ → Type 0
AskRunExplained words name sink workers =
    AsksRun words (record {
      graph = name;
      sink = sink;
      workers = workers;
      explain = Yes;
      beside = false;
      counts = false;
    })

-- what a call asks for
abbrev pub run_of : RunCall → Run
run_of call = record {
  graph = call.graph.now;
  sink = option_map (λ s. s.now) call.sink;
  workers = call.workers;
  explain = call.explain;
  beside = call.beside;
  counts = call.counts;
}

-- ---- an evaluation by workers

-- the kinds of answer that clap may give in place of taking the words behind `phase eval`
unfoldable pub workers_kinds_of : List Text → Kinds
workers_kinds_of words = fault_of workers_app words

-- clap takes them
abbrev pub AreWorkersTaken : List Text → Type 0
AreWorkersTaken words = workers_kinds_of words ≡ []

-- they are not taken, and ask for no help and no version
abbrev pub AreWorkersRefused : List Text → Type 0
AreWorkersRefused words = Refuse (workers_kinds_of words)

-- what they ask for, by what clap finds in them
unfoldable pub workers_in : List Text → Run
workers_in words = run_by (matches_of workers_app words)

-- clap takes them, and they ask for an evaluation by so many workers
pub record AsksWorkers (words : List Text) (what : Run) : Type 0 where
  pub taken : AreWorkersTaken words
  pub run : workers_in words ≡ what

-- What the words behind `phase stream` ask for, by what clap makes of them.
use Rattle.std.specs.Prelude.{◌≡◌, Bool, false, List, [], ◌∷◌, Option, codes, map, option_map}
use Rattle.clap.specs.Words.{App, Kinds, Row, Text, fault_of, first_of, matches_of, with_rule}
use Rattle.clap.specs.Kinds.{or_else}
use Rattle.clap.specs.declared.error.kind.ErrorKind.TheVariants.{DisplayHelp}
use Rattle.phase_words.specs.CommandLine.{Refuse, columns_rule, explain_of, explain_rule, is_given}
use Rattle.phase_words.specs.Outputs.{Pair, others_in, output_kinds, pair_as, pairs_in, sink_in, to_rule}
use Rattle.phase_words.specs.SinkLine.{graph_by, sink_app}
use Rattle.watched_io.specs.declared.explain.Explain.{Explain}
use Rattle.watched_io.specs.declared.explain.Explain.TheVariants.{No, Yes}
use Rattle.phase_words.specs.declared.call.StreamCall.{StreamCall}

-- ---- the command line

-- the words behind `phase stream`: a graph's file, a sink, `--beside`, sinks with their files,
-- `--columns` and `--explain`
unfoldable pub stream_app : App
stream_app = with_rule (with_rule (with_rule sink_app to_rule) columns_rule) explain_rule

-- ---- what the words ask for

-- the kinds of answer that may be given in place of taking the words: those of clap, and where it
-- has none, those of words with `--columns` that name a sink, of which one behind `--to` names no
-- file, or that name a sink or a file twice
unfoldable pub stream_kinds_of : List Text → Kinds
stream_kinds_of words =
    or_else (fault_of stream_app words) (output_kinds (matches_of stream_app words))

-- clap takes the words: they ask for no help and no version, and nothing is refused
abbrev pub AreStreamTaken : List Text → Type 0
AreStreamTaken words = stream_kinds_of words ≡ []

-- the words ask for help, and for nothing else
abbrev pub AskStreamHelp : List Text → Type 0
AskStreamHelp words = stream_kinds_of words ≡ DisplayHelp ∷ []

-- the words are refused: they are not taken, and ask for no help and no version
abbrev pub AreStreamRefused : List Text → Type 0
AreStreamRefused words = Refuse (stream_kinds_of words)

-- the values of a sink, of the name or of the only one, of the graph in the file of a name, as they
-- come, and those of other sinks to files, with an explanation of a fault or without, and with the
-- files of its sources opened beside it or not. Where other sinks are named, none goes to the
-- output but that of the name. Or all its sinks go there as the columns of a table
pub record Stream : Type 0 where
  pub graph : Text
  pub sink : Option Text
  pub files : List Pair
  pub columns : Bool
  pub explain : Explain
  pub beside : Bool

-- by what clap finds in the words, and which sinks go where
abbrev pub stream_with : List Row → List Pair → Stream
stream_with rows pairs = record {
  graph = graph_by rows;
  sink = sink_in pairs;
  files = others_in pairs;
  columns = is_given (first_of (codes "columns") rows);
  explain = explain_of (first_of (codes "explain") rows);
  beside = is_given (first_of (codes "beside") rows);
}

-- by what clap finds in the words
abbrev pub stream_by : List Row → Stream
stream_by rows = stream_with rows (pairs_in rows)

-- the stream that the words ask for, by what clap finds in them
unfoldable pub stream_in : List Text → Stream
stream_in words = stream_by (matches_of stream_app words)

-- clap takes the words, and they ask for this stream
pub record AsksStream (words : List Text) (what : Stream) : Type 0 where
  pub taken : AreStreamTaken words
  pub stream : stream_in words ≡ what

-- the words ask for the values of the only sink, or of the one of this name, of the graph in the
-- file of this name, without an explanation of a fault
abbrev pub AskStream : List Text → Text → Option Text → Type 0
AskStream words name sink =
    AsksStream words (record {
      graph = name;
      sink = sink;
      files = [];
      columns = false;
      explain = No;
      beside = false;
    })

-- and for such a stream with an explanation of a fault
abbrev pub AskStreamExplained : List Text → Text → Option Text → Type 0
AskStreamExplained words name sink =
    AsksStream words (record {
      graph = name;
      sink = sink;
      files = [];
      columns = false;
      explain = Yes;
      beside = false;
    })

-- what a call asks for
abbrev pub stream_asked : StreamCall → Stream
stream_asked call = record {
  graph = call.graph.now;
  sink = option_map (λ s. s.now) call.sink;
  files = map pair_as call.files.items;
  columns = call.columns;
  explain = call.explain;
  beside = call.beside;
}

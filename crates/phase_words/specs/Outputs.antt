-- Which sinks of a graph a stream writes, and where their values go, by the words that say it.
use Rattle.std.specs.Prelude.{ℕ, ◌==◌, ◌||◌, ◌&&◌, Bool, true, false, not, List, [], ◌∷◌, Option, Some, None, codes, length, map, nat_lt, unwrap_or, if◌then◌else◌}
use Rattle.std.specs.List.{after_first, before_first, filter, list_all, list_any, position_or_len}
use Rattle.std.specs.Str.{bytes_eq}
use Rattle.clap.specs.Words.{Kinds, Row, Rule, Text, all_of, first_of, new_rule}
use Rattle.clap.specs.declared.builder.action.ArgAction.TheVariants.{Append}
use Rattle.clap.specs.declared.error.kind.ErrorKind.TheVariants.{ArgumentConflict, ValueValidation}
use Rattle.phase_words.specs.CommandLine.{is_given}
use Rattle.phase_words.specs.declared.call.SinkFile.{SinkFile}

-- a sink and the file that its values go to, each by its name
abbrev pub Pair : Type 0
Pair = Text × Text

-- the same of a call
abbrev pub pair_as : SinkFile → Pair
pair_as it = (it.sink.now, it.file.now)

-- ---- the words

-- the words behind `--to`, which may be given more than once
abbrev pub to_rule : Rule
to_rule = record (new_rule (codes "to")) {
  long = Some (codes "to");
  value_names = 1;
  action = Some Append;
}

-- the byte is a `=`
abbrev pub is_equals : ℕ → Bool
is_equals b = b == 61

-- the word names a file, behind a `=`
abbrev pub has_file : Text → Bool
has_file word = nat_lt (position_or_len is_equals word) (length word)

-- one of the words names none
abbrev pub lack_file : List Text → Bool
lack_file words = list_any (λ word. not (has_file word)) words

-- what stands before the first `=` is a sink, and what stands behind it a file
abbrev pub pair_of : Text → Pair
pair_of word = if has_file word then (before_first is_equals word, after_first is_equals word)
    else (word, [])

-- ---- which sinks go where

-- that of `--sink` to the output, and those of the words to their files
abbrev pub pairs_by : Option Text → List Text → List Pair
pairs_by None words = map pair_of words
pairs_by (Some sink) words = (sink, codes "-") ∷ map pair_of words

-- the words behind `--to`, by what clap finds
abbrev pub words_by : List Row → List Text
words_by rows = unwrap_or (all_of (codes "to") rows) []

-- which sinks go where, by what clap finds
abbrev pub pairs_in : List Row → List Pair
pairs_in rows = pairs_by (first_of (codes "sink") rows) (words_by rows)

-- two of them name one sink, or one file
abbrev pub clash : Pair → Pair → Bool
clash one other = bytes_eq one.0 other.0 || bytes_eq one.1 other.1

-- two of these do
abbrev pub clashes_in : List Pair → Bool
clashes_in [] = false
clashes_in (pair ∷ pairs) = list_any (clash pair) pairs || clashes_in pairs

-- all sinks are asked for as the columns of a table, and beside that a sink is named
abbrev pub is_beside_columns : Bool → List Pair → Bool
is_beside_columns columns pairs = columns && nat_lt 0 (length pairs)

-- why the words are refused, where they are: sinks are named beside `--columns`, one names no file,
-- or a sink or a file stands twice
abbrev pub output_kinds_by : Bool → Bool → Bool → Kinds
output_kinds_by beside lacks clashes =
    if beside then ArgumentConflict ∷ []
    else if lacks then ValueValidation ∷ []
    else if clashes then ArgumentConflict ∷ []
    else []

-- by what clap finds
abbrev pub output_kinds : List Row → Kinds
output_kinds rows =
    output_kinds_by
    (is_beside_columns (is_given (first_of (codes "columns") rows)) (pairs_in rows))
    (lack_file (words_by rows)) (clashes_in (pairs_in rows))

-- the output is the file of the name `-`
abbrev pub is_output : Pair → Bool
is_output pair = bytes_eq pair.1 (codes "-")

-- the sink that goes to the output, where one does
abbrev pub sink_in : List Pair → Option Text
sink_in [] = None
sink_in (pair ∷ pairs) = if is_output pair then Some pair.0 else sink_in pairs

-- the sinks that go to other files
abbrev pub others_in : List Pair → List Pair
others_in [] = []
others_in (pair ∷ pairs) = if is_output pair then others_in pairs else pair ∷ others_in pairs

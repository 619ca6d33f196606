-- What the command lines behind `phase run` and `phase stream` have in common: they have no
-- commands, and ask for a graph's file, for one of its sinks, and where the others are opened.
use Rattle.std.specs.Prelude.{List, [], codes, unwrap_or}
use Rattle.clap.specs.Words.{App, Row, Text, first_of, with_rule}
use Rattle.phase_words.specs.CommandLine.{beside_rule, graph_rule, sink_rule}
use Rattle.phase_words.specs.ClapErrors.{bare_app}

-- the names of a graph's file, which has to be given, and of a sink, which may be given, as may
-- `--beside`
abbrev pub sink_app : App
sink_app = with_rule (with_rule (with_rule bare_app graph_rule) sink_rule) beside_rule

-- the name of the graph's file, by what clap finds in the words
abbrev pub graph_by : List Row → Text
graph_by rows = unwrap_or (first_of (codes "graph") rows) []

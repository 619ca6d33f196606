use Rattle.std.proofs.Common.{◌≡◌, [], map, take}
use Rattle.watched_io.specs.Watched.{has_failed_of, inner_of}
use Rattle.stream_eval.specs.Results.{sink_output}
use Rattle.graph_commands.specs.OutputTexts.{text_of}
use Rattle.graph_commands.specs.Puts.{PutsBytes}
use Rattle.graph_commands.proofs.lines.write_lines.Given as goal

-- the sinks before this one were put
abbrev pub invariant-loop-sink : goal.invariant-loop-sink
invariant-loop-sink g l =
    PutsBytes (g.W.Write.contents (inner_of l.fn.writer)) (g.W.Write.contents (inner_of l.writer))
    [] l.piece (text_of l.graph (map sink_output (take l.sink-index l.lines)))
    × (has_failed_of l.writer ≡ has_failed_of l.fn.writer)

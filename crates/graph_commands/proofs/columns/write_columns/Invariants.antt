use Rattle.std.proofs.Common.{[], ◌++◌, Some, None, map}
use Rattle.std.specs.List.{flat_map, range_with_len}
use Rattle.watched_io.specs.Watched.{inner_of}
use Rattle.stream_eval.specs.Results.{sink_values}
use Rattle.graph_commands.specs.ColumnTexts.{row_text}
use Rattle.graph_commands.specs.Puts.{PutsBytes}
use Rattle.graph_commands.proofs.columns.write_columns.Given as goal

-- the line of the names and those of the steps before this one were put
abbrev pub invariant-loop-n : goal.invariant-loop-n
invariant-loop-n g l =
    PutsBytes (g.W.Write.contents (inner_of l.fn.writer)) (g.W.Write.contents (inner_of l.writer))
    [] l.piece (row_text l.job (map sink_values l.sinks) None
    ++ flat_map (λ n. row_text l.job (map sink_values l.sinks) (Some n)) (range_with_len 0 l.n))

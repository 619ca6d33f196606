use Rattle.std.proofs.Common.{map}
use Rattle.std.specs.List.{flat_map, range_with_len}
use Rattle.watched_io.specs.Watched.{inner_of}
use Rattle.stream_eval.specs.Results.{sink_values}
use Rattle.graph_commands.specs.ColumnTexts.{cell_at}
use Rattle.graph_commands.specs.Puts.{PutsBytes}
use Rattle.graph_commands.proofs.output_buffer.OutputBuffer.put_cells.Given as goal

-- the cells before this one were put
abbrev pub invariant-loop-k : goal.invariant-loop-k
invariant-loop-k g l =
    PutsBytes (g.W.Write.contents (inner_of l.fn.writer)) (g.W.Write.contents (inner_of l.writer))
    l.fn.self l.self (flat_map (cell_at l.job (map sink_values l.sinks) l.step) (range_with_len 0 l.k))

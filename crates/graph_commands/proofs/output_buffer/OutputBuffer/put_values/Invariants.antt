use Rattle.std.proofs.Common.{◌≡◌, take}
use Rattle.std.specs.List.{flat_map}
use Rattle.watched_io.specs.Watched.{has_failed_of, inner_of}
use Rattle.graph_commands.specs.OutputTexts.{value_text}
use Rattle.graph_commands.specs.Puts.{PutsBytes}
use Rattle.graph_commands.proofs.output_buffer.OutputBuffer.put_values.Given as goal

-- the values before this one were put
abbrev pub invariant-loop-value : goal.invariant-loop-value
invariant-loop-value g l =
    PutsBytes (g.W.Write.contents (inner_of l.fn.writer)) (g.W.Write.contents (inner_of l.writer))
    l.fn.self l.self (flat_map value_text (take l.value-index l.values))
    × (has_failed_of l.writer ≡ has_failed_of l.fn.writer)

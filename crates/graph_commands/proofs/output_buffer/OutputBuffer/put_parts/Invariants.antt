use Rattle.std.proofs.Common.{◌≡◌, take}
use Rattle.std.specs.List.{flat_map}
use Rattle.watched_io.specs.Watched.{has_failed_of, inner_of}
use Rattle.graph_commands.specs.Puts.{PutsBytes, bytes_of}
use Rattle.graph_commands.proofs.output_buffer.OutputBuffer.put_parts.Given as goal

-- the parts before this one were put
abbrev pub invariant-loop-part : goal.invariant-loop-part
invariant-loop-part g l =
    PutsBytes (g.W.Write.contents (inner_of l.fn.writer)) (g.W.Write.contents (inner_of l.writer))
    l.fn.self l.self (flat_map bytes_of (take l.part-index l.parts))
    × (has_failed_of l.writer ≡ has_failed_of l.fn.writer)

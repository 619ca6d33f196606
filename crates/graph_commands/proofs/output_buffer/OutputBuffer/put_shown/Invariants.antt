use Rattle.std.proofs.Common.{map, take}
use Rattle.graph_show.specs.Explanations.{shown}
use Rattle.watched_io.specs.Watched.{inner_of}
use Rattle.graph_commands.specs.Puts.{PutsBytes}
use Rattle.graph_commands.proofs.output_buffer.OutputBuffer.put_shown.Given as goal

-- the bytes before this one were put
abbrev pub invariant-loop-b : goal.invariant-loop-b
invariant-loop-b g l =
    PutsBytes (g.W.Write.contents (inner_of l.fn.writer)) (g.W.Write.contents (inner_of l.writer))
    l.fn.self l.self (map shown (take l.b-index l.text))

use Rattle.std.proofs.Common.{◌≡◌, take}
use Rattle.std.specs.List.{flat_map}
use Rattle.watched_io.specs.Watched.{has_failed_of, inner_of}
use Rattle.graph_commands.specs.Puts.{PutsBytes}
use Rattle.graph_commands.proofs.output_buffer.OutputBuffer.put_texts.Given as goal

-- the texts before this one were put
abbrev pub invariant-loop-text : goal.invariant-loop-text
invariant-loop-text g l =
    PutsBytes (g.W.Write.contents (inner_of l.fn.writer)) (g.W.Write.contents (inner_of l.writer))
    l.fn.self l.self (flat_map (λ text. text.now) (take l.text-index l.texts))
    × (has_failed_of l.writer ≡ has_failed_of l.fn.writer)

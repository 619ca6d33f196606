use Rattle.std.proofs.Common.{◌≡◌, ℕ, List}
use Rattle.phase_words.specs.StreamLine.{stream_asked}
use Rattle.phase_stream.proofs.Making.{AreFirstApart}
use Rattle.phase_stream.proofs.writers.are_apart.Given as goal

-- none of the files before this one is read by the stream, and what is known of all is as before
abbrev pub invariant-loop-k : goal.invariant-loop-k
invariant-loop-k g l = AreFirstApart (stream_asked l.call).beside (stream_asked l.call).graph l.graph
    (stream_asked l.call).files l.k
    × ((other : List ℕ) → g.F.Files.file l.files other ≡ g.F.Files.file l.fn.files other)

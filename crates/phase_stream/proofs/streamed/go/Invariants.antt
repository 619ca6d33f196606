use Rattle.std.proofs.Common.{◌≡◌, ℕ, List, Option}
use Rattle.graph_commands.specs.FileJobs.{Known}
use Rattle.phase_stream.specs.Outputs.{writers_at}
use Rattle.phase_stream.specs.Sessions.{IsKnownAs, IsSameSession, StandsBy}
use Rattle.phase_stream.proofs.streamed.go.Given as goal

-- the session is of the same graph, the files are known as before, and what stood stands
abbrev pub invariant-loop : goal.invariant-loop
invariant-loop g l = IsSameSession l.fn.session l.session
    × ((other : List ℕ) → g.F.Files.file l.files other ≡ g.F.Files.file l.fn.files other)
    × ((held : Known) (old : ℕ → Option (List ℕ)) → IsKnownAs held (g.F.Files.file l.fn.files)
    → StandsBy g.F.Reader.Read.remaining held old
    (λ k. (writers_at g.W.Write.contents g.F.Writer.Write.contents l.fn.output l.fn.made.items k).written)
    l.fn.session
    → StandsBy g.F.Reader.Read.remaining held old
    (λ k. (writers_at g.W.Write.contents g.F.Writer.Write.contents l.output l.made.items k).written)
    l.session)

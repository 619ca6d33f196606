use Rattle.std.proofs.Common.{◌≡◌, ℕ, List, Option, true}
use Rattle.graph_commands.specs.FileJobs.{Known}
use Rattle.watched_io.specs.Watched.{inner_of}
use Rattle.phase_stream.specs.Sessions.{IsKnownAs, IsSameSession}
use Rattle.phase_stream.specs.TableLines.{TableStands}
use Rattle.phase_stream.proofs.streamed_table.go.Given as goal

-- the session is of the same graph, the files are known as before, and what stood stands
abbrev pub invariant-loop : goal.invariant-loop
invariant-loop g l = IsSameSession l.fn.session l.session
    × ((other : List ℕ) → g.F.Files.file l.files other ≡ g.F.Files.file l.fn.files other)
    × ((held : Known) (old : Option (List ℕ)) → IsKnownAs held (g.F.Files.file l.fn.files)
    → TableStands g.F.Reader.Read.remaining held old (g.W.Write.contents (inner_of l.fn.output))
    l.fn.session l.fn.table true
    → TableStands g.F.Reader.Read.remaining held old (g.W.Write.contents (inner_of l.output))
    l.session l.table true)

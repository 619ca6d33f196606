use Rattle.std.proofs.Common.{◌≡◌, ◌++◌, ℕ, ℤ, Bool, true, List}
use Rattle.std.specs.Io.KnownBytes.{Appends}
use Rattle.watched_io.specs.Watched.{inner_of}
use Rattle.graph_runs.specs.Moments.{Moment}
use Rattle.stream_lists.specs.Jobs.{Job}
use Rattle.phase_stream.specs.TableLines.{Shows, ShowsMore, View, have_left}
use Rattle.phase_stream.proofs.EachColumn.{weights}
use Rattle.phase_stream.proofs.table.Table.write.Given as goal

-- some lines were written, and others wait in the text
abbrev pub invariant-loop-self : goal.invariant-loop-self
invariant-loop-self g l = (sent : List ℕ)
    × Appends (g.W.Write.contents (inner_of l.fn.output)) (g.W.Write.contents (inner_of l.output)) sent
    × ((job : Job) (ended : ℕ → Bool) (going : Bool) (s : List (List ℤ)) (m : Moment)
    (given : ℕ → List ℤ) (view : View)
    → Shows job ended going s m given l.fn.self.columns.items view
    → ShowsMore job ended going s m given view l.self.columns.items (sent ++ l.text.items))
    × (have_left l.fn.self.columns.items ≡ true → have_left l.self.columns.items ≡ true)

abbrev pub decreases-loop-self : goal.decreases-loop-self
decreases-loop-self g l = weights l.self.columns.items

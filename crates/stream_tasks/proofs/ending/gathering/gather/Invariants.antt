use Rattle.std.proofs.Common.{◌≡◌, ℕ, ◌≤◌, length, slice_get}
use Rattle.graph_runs.specs.RunEnds.{Ends}
use Rattle.stream_tasks.specs.Gatherings.{AreGathered}
use Rattle.stream_tasks.proofs.ending.gathering.gather.Given as goal

-- the tasks before this one are gathered, and the others stand where they stood
abbrev pub invariant-loop-t : goal.invariant-loop-t
invariant-loop-t l =
    (ends : Ends) × AreGathered l.job l.fn.joined.items l.joined.items l.parts.items ends
    × (length ends ≡ l.t)
    × ((u : ℕ) → l.t ≤ u → slice_get l.tasks.items u ≡ slice_get l.fn.tasks.items u)
    × (length l.tasks.items ≡ length l.fn.tasks.items)

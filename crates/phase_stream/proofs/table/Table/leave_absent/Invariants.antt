use Rattle.std.proofs.Common.{◌≡◌, ℕ, ℤ, Bool, List, map}
use Rattle.graph_runs.specs.Moments.{Moment}
use Rattle.phase_stream.specs.TableLines.{Shows, View}
use Rattle.phase_stream.proofs.table.Table.leave_absent.Given as goal

-- what stood in the lines is the same, and so are the sinks
abbrev pub invariant-loop-number : goal.invariant-loop-number
invariant-loop-number l = (map (λ column. column.task) l.self.columns.items
    ≡ map (λ column. column.task) l.fn.self.columns.items)
    × ((ended : ℕ → Bool) (going : Bool) (s : List (List ℤ)) (m : Moment) (given : ℕ → List ℤ)
    (view : View) → Shows l.job ended going s m given l.fn.self.columns.items view
    → Shows l.job ended going s m given l.self.columns.items view)

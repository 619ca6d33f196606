use Rattle.std.proofs.Common.{◌+◌, ◌≤◌}
use Rattle.stream_tasks.proofs.Rows.{HaveLeft}
use Rattle.stream_tasks.proofs.opening.founders.leave_all.Given as goal

-- those that left so far, and there is room for the rest
abbrev pub invariant-loop-founder : goal.invariant-loop-founder
invariant-loop-founder g l =
    HaveLeft l.fn.founders.items l.lefts.items l.founders.rest.items
    × (l.lefts.len + l.founders.rest.len ≤ l.lefts.cap)

-- one fewer each time
abbrev pub decreases-loop-founder : goal.decreases-loop-founder
decreases-loop-founder g l = l.founders.rest.len

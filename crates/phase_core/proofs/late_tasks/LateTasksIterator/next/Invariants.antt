use Rattle.std.proofs.Common.{◌≡◌, length}
use Rattle.phase_core.specs.Standings.{who_have_to}
use Rattle.phase_core.proofs.late_tasks.LateTasksIterator.next.Given as goal

-- who was passed over has nothing to do
abbrev pub invariant-loop-first : goal.invariant-loop-first
invariant-loop-first l =
    who_have_to l.self-inside.role l.self-inside.phase l.self-inside.members.now ≡ l.fn.self

abbrev pub decreases-loop-first : goal.decreases-loop-first
decreases-loop-first l = length l.self-inside.members.now

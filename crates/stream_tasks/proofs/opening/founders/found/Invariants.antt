use Rattle.std.proofs.Common.{◌≡◌, ◌+◌, ◌≤◌, length}
use Rattle.stream_tasks.specs.Openings.{AreFoundersFrom}
use Rattle.stream_tasks.proofs.Rows.{AreOf}
use Rattle.stream_tasks.proofs.opening.founders.found.Given as goal

-- those so far, and the registrations of the rest
abbrev pub invariant-loop-p : goal.invariant-loop-p
invariant-loop-p g l =
    AreFoundersFrom l.p l.phasers l.regs.rest.items × (l.p + l.regs.rest.len ≡ length l.phasers)
    × AreOf l.phasers l.founders.items × (length l.founders.items ≡ l.p)
    × (l.founders.len ≡ l.p) × (length l.phasers ≤ l.founders.cap)

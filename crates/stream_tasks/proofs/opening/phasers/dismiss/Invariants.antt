use Rattle.std.proofs.Common.{◌≡◌, ◌+◌, length}
use Rattle.stream_tasks.specs.Openings.{AreFoundersFrom}
use Rattle.stream_tasks.proofs.opening.phasers.dismiss.Given as goal

-- the rest are the founders of the phasers from this one on
abbrev pub invariant-loop-p : goal.invariant-loop-p
invariant-loop-p g l =
    AreFoundersFrom l.p l.phasers l.regs.rest.items × (l.p + l.regs.rest.len ≡ length l.phasers)

use Rattle.std.proofs.Common.{◌-◌, length}
use Rattle.phase_replay.proofs.Stopping.{Searches}
use Rattle.phase_replay.proofs.stop.first_refused.Given as goal

-- The lines before the byte are taken, and answered.
abbrev pub invariant-loop-end : goal.invariant-loop-end
invariant-loop-end l = Searches l.script l.end l.number l.session

abbrev pub decreases-loop-end : goal.decreases-loop-end
decreases-loop-end l = length l.script - l.end

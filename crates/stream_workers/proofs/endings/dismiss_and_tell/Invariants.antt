use Rattle.stream_workers.proofs.endings.dismiss_and_tell.Given as goal

-- any pool, with fewer tasks each time
abbrev pub invariant-loop-place : goal.invariant-loop-place
invariant-loop-place g l = Unit {0}

abbrev pub decreases-loop-place : goal.decreases-loop-place
decreases-loop-place g l = l.pool

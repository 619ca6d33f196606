use Rattle.worker_pool.proofs.Freeing.{HasFreed}
use Rattle.worker_pool.proofs.places.Places.free.Given as goal

-- those that are left wait as before, and the others are where the events put them
abbrev pub invariant-loop-task : goal.invariant-loop-task
invariant-loop-task l = HasFreed l.events l.rest l.fn.self l.self

abbrev pub decreases-loop-task : goal.decreases-loop-task
decreases-loop-task l = l.rest.bits

use Rattle.std.proofs.Common.{◌≡◌, length}
use Rattle.phase_core.proofs.Missing.{HasPut}
use Rattle.phase_core.proofs.late_tasks.LateTasks.write_to.Given as goal

-- so many are written
abbrev pub invariant-loop-k : goal.invariant-loop-k
invariant-loop-k l = HasPut l.fn.self l.rest l.fn.places l.places l.k × (length l.places ≡ length l.fn.places)

use Rattle.std.proofs.Common.{◌≡◌, ℕ, true, false, get_or}
use Rattle.stream_job.specs.Parking.{StandsIn}
use Rattle.stream_job.proofs.parked.Parked.marks.Given as goal

-- each mark so far is of a task that stands in a list
abbrev pub invariant-loop-list : goal.invariant-loop-list
invariant-loop-list l = (t : ℕ) → get_or l.marks t false ≡ true → StandsIn l.self t

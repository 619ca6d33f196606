use Rattle.std.proofs.Common.{◌≡◌, [], length, get_or, ℕ}
use Rattle.stream_job.proofs.parked.Parked.new.Given as goal

-- so many lists, all of them empty
abbrev pub invariant-loop : goal.invariant-loop
invariant-loop l =
    (length l.lists.items ≡ l.counter) × ((p : ℕ) → get_or l.lists.items p [] ≡ [])

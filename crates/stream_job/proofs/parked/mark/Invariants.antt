use Rattle.std.proofs.Common.{◌≡◌, ℕ, true, false, eqb, get_or, ◌⊎◌}
use Rattle.std.specs.List.{list_any}
use Rattle.stream_job.proofs.parked.mark.Given as goal

-- each mark so far was there, or is of one of these tasks
abbrev pub invariant-loop-task : goal.invariant-loop-task
invariant-loop-task l = (t : ℕ) → get_or l.marks t false ≡ true
    → (get_or l.fn.marks t false ≡ true) ⊎ (list_any (λ u. eqb u t) l.tasks ≡ true)

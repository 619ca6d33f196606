-- None so far is out of range.
use Rattle.std.proofs.Common.{◌≡◌, ℕ, ◌<◌, false, slice_index_or}
use Rattle.phase_accum.specs.declared.outcome.Outcome.{Outcome}
use Rattle.stream_lists.specs.Ranges.{is_too_big}
use Rattle.stream_tasks.proofs.turn.all_fit.Given as goal

abbrev pub invariant-loop-outcome : goal.invariant-loop-outcome
invariant-loop-outcome l = (k : ℕ) (d : Outcome) → k < l.outcome-index
    → is_too_big (slice_index_or l.outcomes k d) ≡ false

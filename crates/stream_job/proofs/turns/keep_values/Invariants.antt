use Rattle.std.proofs.Common.{◌≡◌, ◌+◌, ◌++◌, drop, length}
use Rattle.std.specs.Prelude.{vec_capacity}
use Rattle.stream_job.specs.SinkLines.{kept_of}
use Rattle.stream_job.proofs.turns.keep_values.Given as goal

-- the values before this one are kept
abbrev pub invariant-loop-outcome : goal.invariant-loop-outcome
invariant-loop-outcome l =
    (l.values.items ++ kept_of (drop l.outcome-index l.outcomes)
    ≡ l.fn.values.items ++ kept_of l.outcomes)
    × (length l.values.items ≡ length l.fn.values.items + l.outcome-index)
    × (vec_capacity l.values ≡ vec_capacity l.fn.values)

use Rattle.std.proofs.Common.{◌≡◌, ◌+◌, drop}
use Rattle.std.specs.List.{position_from}
use Rattle.stream_lists.specs.Ranges.{is_too_big}
use Rattle.stream_job.proofs.turns.told_got.Given as goal

-- none before this one was too big
abbrev pub invariant-loop-outcome : goal.invariant-loop-outcome
invariant-loop-outcome l =
    (l.at ≡ l.phase + l.outcome-index)
    × (position_from is_too_big l.phase l.outcomes
    ≡ position_from is_too_big l.at (drop l.outcome-index l.outcomes))

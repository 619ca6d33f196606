use Rattle.std.proofs.Common.{ℕ, ◌<◌, ◌≤◌}
use Rattle.stream_job.specs.Buffers.{most_steps}
use Rattle.stream_job.specs.declared.buffers.TheConstants.{OWN_STEPS}
use Rattle.stream_job.proofs.buffers.greatest_steps.Given as goal

-- the steps of the tasks before this one are no more
abbrev pub invariant-loop-t : goal.invariant-loop-t
invariant-loop-t l =
    (OWN_STEPS ≤ l.most) × ((u : ℕ) → u < l.t → most_steps l.job u ≤ l.most)

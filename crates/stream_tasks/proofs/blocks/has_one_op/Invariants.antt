-- The outputs so far have the operation of the first.
use Rattle.std.proofs.Common.{◌≡◌, ℕ, ◌<◌}
use Rattle.graph_runs.specs.Answers.{output_at}
use Rattle.graph_base.specs.Graphs.{phaser_at}
use Rattle.stream_tasks.proofs.blocks.has_one_op.Given as goal

abbrev pub invariant-loop-j : goal.invariant-loop-j
invariant-loop-j l = (i : ℕ) → i < l.j
    → (phaser_at l.job.graph (output_at l.job l.task i)).op
    ≡ (phaser_at l.job.graph (output_at l.job l.task 0)).op

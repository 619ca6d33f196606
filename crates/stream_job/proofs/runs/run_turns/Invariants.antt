-- The turns so far were had, and no value was out of range.
use Rattle.std.proofs.Common.{◌≡◌, None, take}
use Rattle.graph_runs.specs.Answers.{after_turns}
use Rattle.graph_runs.specs.Beginnings.{opening}
use Rattle.stream_job.specs.Runs.{TellsNone}
use Rattle.stream_job.specs.Worlds.{IsWorldAt}
use Rattle.stream_job.proofs.runs.run_turns.Given as goal

abbrev pub invariant-loop-task : goal.invariant-loop-task
invariant-loop-task l =
    (l.world.job ≡ l.fn.job) × (l.world.met ≡ None)
    × IsWorldAt l.world (after_turns l.fn.job (opening l.fn.job) (take l.task-index l.turns))
    × TellsNone l.fn.job (take l.task-index l.turns)

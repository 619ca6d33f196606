use Rattle.phase_stream.proofs.Sinking.{IsOnlyBefore}
use Rattle.phase_stream.proofs.sink.only_sink.Given as goal

-- the only sink before this task, where there is one
abbrev pub invariant-loop-task : goal.invariant-loop-task
invariant-loop-task l = IsOnlyBefore l.job l.task l.only

use Rattle.phase_stream.proofs.TakenLines.{AreNewBefore}
use Rattle.phase_stream.proofs.table.Table.new.Given as goal

-- a column for each sink among the tasks before this one
abbrev pub invariant-loop-task : goal.invariant-loop-task
invariant-loop-task l = AreNewBefore l.job l.task l.columns.items

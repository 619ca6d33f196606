use Rattle.phase_stream.specs.Columns.{HasPassedLine}
use Rattle.phase_stream.proofs.EachColumn.{GoesBelow}
use Rattle.phase_stream.proofs.table.Table.pass.Given as goal

-- the columns before this one went on so
abbrev pub invariant-loop-number : goal.invariant-loop-number
invariant-loop-number l = GoesBelow HasPassedLine l.number l.fn.self.columns.items l.self.columns.items

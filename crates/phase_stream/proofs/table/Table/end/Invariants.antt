use Rattle.phase_stream.specs.Columns.{HasNoMore}
use Rattle.phase_stream.proofs.EachColumn.{GoesBelow}
use Rattle.phase_stream.proofs.table.Table.end.Given as goal

-- the columns before this one went on so
abbrev pub invariant-loop-number : goal.invariant-loop-number
invariant-loop-number l = GoesBelow HasNoMore l.number l.fn.self.columns.items l.self.columns.items

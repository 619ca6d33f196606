-- All have left.
use Rattle.std.proofs.Common.{arith}
use Rattle.phase_stream.specs.Columns.{HasNoMore}
use Rattle.phase_stream.proofs.EachColumn.{goes_all, left_all}
use Rattle.phase_stream.proofs.table.Table.end.Goals as goal

pub returns-clause-left : goal.returns-clause-left
returns-clause-left c =
    let end = c.len-number-end.ensures in
    let far = c.loop-number-test.false in
    let near = c.loop-number.auto.number-end in
    left_all c.args.self.now.columns.items c.loop-number.self.columns.items
    (goes_all HasNoMore c.loop-number.number c.args.self.now.columns.items
    c.loop-number.self.columns.items c.loop-number.invariant (omega arith))

-- A column more has passed.
use Rattle.std.proofs.Common.{◌≡◌, Some, length, refl, slice_get, arith}
use Rattle.std.proofs.lemmas.Option.{slice_get_read}
use Rattle.phase_stream.specs.Columns.{HasPassedLine}
use Rattle.phase_stream.proofs.EachColumn.{goes_all, goes_more}
use Rattle.phase_stream.proofs.table.Table.pass.Goals as goal

pub loop-number-preserved : goal.loop-number-preserved
loop-number-preserved c =
    let end = c.len-number-end.ensures in
    let lt = c.loop-number-test.true in
    let near = c.loop-number.auto.number-end in
    let many = c.loop-number.invariant.many in
    let items = c.loop-number.self.columns.items in
    let there : slice_get items c.loop-number.number ≡ Some c.index_mut.result.now =
    slice_get_read items (length items) c.loop-number.number c.index_mut.result.now refl
    (omega arith) c.index_mut.ensures.value in
    goes_more HasPassedLine c.loop-number.number c.args.self.now.columns.items items
    c.index_mut.result.now c.pass.new.self c.loop-number.invariant there c.pass.ensures

pub returns : goal.returns
returns c =
    let end = c.len-number-end.ensures in
    let far = c.loop-number-test.false in
    let near = c.loop-number.auto.number-end in
    goes_all HasPassedLine c.loop-number.number c.args.self.now.columns.items
    c.loop-number.self.columns.items c.loop-number.invariant (omega arith)

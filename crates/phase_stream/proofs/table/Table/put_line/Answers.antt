-- A cell more was put.
use Rattle.std.proofs.Common.{◌≡◌, ◌++◌, ◌==◌, None, length, get_or, map, sym, ap, ◌∙◌, arith}
use Rattle.std.proofs.lemmas.List.{get_or-map, length-map}
use Rattle.graph_commands.specs.ColumnTexts.{comma_before, value_cell}
use Rattle.phase_stream.specs.Columns.{next_cell}
use Rattle.phase_stream.proofs.LineTexts.{cells_more}
use Rattle.phase_stream.proofs.table.Table.put_line.Goals as goal

pub loop-k-preserved : goal.loop-k-preserved
loop-k-preserved c =
    let columns = c.args.self.now.columns.items in
    let cells = map next_cell columns in
    let k = c.loop-k.k in
    let alone = c.len-alone.result == 1 in
    let cell = c.cell.result in
    let long = length-map columns next_cell in
    let lt = c.loop-k-test.true in
    let end = c.len-k-end.ensures in
    let near = c.loop-k.auto.k-end in
    let one : alone ≡ (length cells == 1) =
    ap (λ n. n == 1) (let okay = c.args.self.now.columns.ok.0 in let is = c.len-alone.ensures in omega arith) in
    let is : cell ≡ get_or cells k None =
    c.cell.ensures ∙ ap next_cell c.index.ensures
    ∙ sym (get_or-map next_cell columns k c.index.result.now None (omega arith)) in
    cells_more c.args.text.now.items c.loop-k.text.items c.extend_from_slice.new.self.items
    c.put_cell.new.text.items
    (λ j. comma_before j ++ value_cell (length cells == 1) (get_or cells j None)) k
    c.comma_before.result.now (value_cell alone cell) c.loop-k.invariant
    c.in_ok-extend_from_slice.ensures.items c.in_ok-put_cell.ensures
    (ap (λ l. l ++ value_cell alone cell) c.comma_before.ensures
    ∙ ap (λ b. comma_before k ++ value_cell b cell) one
    ∙ ap (λ o. comma_before k ++ value_cell (length cells == 1) o) is)

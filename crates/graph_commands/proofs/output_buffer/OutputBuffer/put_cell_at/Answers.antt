use Rattle.std.proofs.Common.{◌≡◌, ◌∙◌, [], map, get_or, ap, rules}
use Rattle.std.proofs.lemmas.List.{get_or-map, length-map}
use Rattle.std.proofs.lemmas.Result.{err_from_is_err_and, on_err_weaker, on_ok_weaker}
use Rattle.stream_eval.specs.Results.{sink_values}
use Rattle.graph_commands.specs.ColumnTexts.{comma_before}
use Rattle.graph_commands.proofs.Putting.{Puts-append, prefix_before, prefix_behind}
use Rattle.graph_commands.proofs.output_buffer.OutputBuffer.put_cell_at.Given.{Over}
use Rattle.graph_commands.proofs.output_buffer.OutputBuffer.put_cell_at.Goals.{After-put_cell}
use Rattle.graph_commands.proofs.output_buffer.OutputBuffer.put_cell_at.Goals as goal

-- of the comma a prefix was put
pub returns-in_err-put-clause-err : goal.returns-in_err-put-clause-err
returns-in_err-put-clause-err g c =
    let p = err_from_is_err_and c.from_residual.result c.from_residual.ensures.1 in
    rw p.1 (prefix_before _ _ c.args.self.now (comma_before c.args.k) _
    (rw c.comma_before.ensures at c.in_err-put.ensures.err))

-- the values at this place are those of the sink there
here : (g : Over) (c : After-put_cell g) → get_or (map sink_values c.args.sinks.now) c.args.k (0, [])
    ≡ sink_values c.index-sinks-k.result
here g c =
    let sink = c.index-sinks-k.result in
    let is : get_or c.args.sinks.now c.args.k sink ≡ sink = search rules in
    get_or-map sink_values c.args.sinks.now c.args.k sink (0, []) c.requires.cell
    ∙ ap sink_values is

-- the comma and the cell
pub returns-clause-ok : goal.returns-clause-ok
returns-clause-ok g c =
    let same = here g (goal.at.returns-clause-ok g c).After-put_cell in
    let count = length-map c.args.sinks.now sink_values in
    rw (same, count) (on_ok_weaker c.put_cell.result
    (Puts-append _ _ _ c.args.self.now c.put.new.self c.put_cell.new.self (comma_before c.args.k) _
    (rw c.comma_before.ensures at c.in_ok-put.ensures.ok))
    c.put_cell.ensures.ok)

-- of the cell a prefix was put
pub returns-clause-err : goal.returns-clause-err
returns-clause-err g c =
    let same = here g (goal.at.returns-clause-err g c).After-put_cell in
    let count = length-map c.args.sinks.now sink_values in
    rw (same, count) (on_err_weaker c.put_cell.result
    (prefix_behind _ _ _ c.args.self.now c.put.new.self (comma_before c.args.k) _
    (rw c.comma_before.ensures at c.in_ok-put.ensures.ok))
    c.put_cell.ensures.err)

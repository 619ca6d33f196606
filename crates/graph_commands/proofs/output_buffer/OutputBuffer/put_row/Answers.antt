use Rattle.std.proofs.Common.{map, codes}
use Rattle.std.proofs.lemmas.Result.{err_from_is_err_and, on_err_weaker, on_ok_weaker}
use Rattle.stream_eval.specs.Results.{sink_values}
use Rattle.graph_commands.specs.ColumnTexts.{cells_text}
use Rattle.graph_commands.proofs.Putting.{Puts-append, prefix_before, prefix_behind}
use Rattle.graph_commands.proofs.output_buffer.OutputBuffer.put_row.Goals as goal

-- of the cells a prefix was put
pub returns-in_err-put_cells-clause-err : goal.returns-in_err-put_cells-clause-err
returns-in_err-put_cells-clause-err g c =
    let p = err_from_is_err_and c.from_residual.result c.from_residual.ensures.1 in
    rw p.1 (prefix_before _ _ c.args.self.now
    (cells_text c.args.job.now (map sink_values c.args.sinks.now) c.args.step) (codes "\n")
    c.in_err-put_cells.ensures.err)

-- the cells and the line's end
pub returns-clause-ok : goal.returns-clause-ok
returns-clause-ok g c =
    on_ok_weaker c.put.result
    (Puts-append _ _ _ c.args.self.now c.put_cells.new.self _
    (cells_text c.args.job.now (map sink_values c.args.sinks.now) c.args.step) (codes "\n")
    c.in_ok-put_cells.ensures.ok)
    c.put.ensures.ok

-- the line's end is missing
pub returns-clause-err : goal.returns-clause-err
returns-clause-err g c =
    on_err_weaker c.put.result
    (prefix_behind _ _ _ c.args.self.now c.put_cells.new.self
    (cells_text c.args.job.now (map sink_values c.args.sinks.now) c.args.step) (codes "\n")
    c.in_ok-put_cells.ensures.ok)
    c.put.ensures.err

use Rattle.std.proofs.Common.{◌<◌, ◌+◌, ◌++◌, map, length, arith}
use Rattle.std.specs.List.{flat_map, range_with_len}
use Rattle.std.proofs.lemmas.List.{length-map}
use Rattle.std.proofs.lemmas.Result.{err_from_is_err_and}
use Rattle.stream_eval.specs.Results.{sink_values}
use Rattle.graph_commands.specs.ColumnTexts.{cell_at}
use Rattle.graph_commands.proofs.Below.{below-more, below-parts, from_on}
use Rattle.graph_commands.proofs.Putting.{Puts-append, prefix_behind, prefix_within}
use Rattle.graph_commands.proofs.output_buffer.OutputBuffer.put_cells.Goals as goal

-- of a cell a prefix was put
pub returns-in_err-put_cell_at-clause-err : goal.returns-in_err-put_cell_at-clause-err
returns-in_err-put_cell_at-clause-err g c =
    let p = err_from_is_err_and c.from_residual.result c.from_residual.ensures.1 in
    let sinks = map sink_values c.args.sinks.now in
    let text = cell_at c.args.job.now sinks c.args.step in
    let k = c.loop-k.k in
    let n = length sinks in
    let count = length-map c.args.sinks.now sink_values in
    let less : k < n = omega (arith, c.loop-k-test.true, count) in
    let before = c.args.self.now in
    let put = flat_map text (range_with_len 0 k) in
    rw p.1 (prefix_within _ _ before (put ++ text k) (from_on text (k + 1) n)
    (flat_map text (range_with_len 0 n)) (below-parts text k n less)
    (prefix_behind _ _ _ before c.loop-k.self put (text k) c.loop-k.invariant
    c.in_err-put_cell_at.ensures.err))

-- one more cell was put
pub loop-k-preserved : goal.loop-k-preserved
loop-k-preserved g c =
    let sinks = map sink_values c.args.sinks.now in
    let text = cell_at c.args.job.now sinks c.args.step in
    let k = c.loop-k.k in
    rw (below-more text k) (Puts-append _ _ _ c.args.self.now c.loop-k.self c.put_cell_at.new.self
    (flat_map text (range_with_len 0 k)) (text k) c.loop-k.invariant c.in_ok-put_cell_at.ensures.ok)

use Rattle.std.proofs.Common.{◌≡◌, ◌<◌, ◌+◌, ◌++◌, [], Some, None, ℕ, List, map, arith}
use Rattle.std.specs.List.{flat_map, range_with_len}
use Rattle.std.proofs.lemmas.Result.{err_from_is_err_and, on_err_weaker}
use Rattle.stream_eval.specs.Results.{sink_values}
use Rattle.graph_commands.specs.ColumnTexts.{columns_text, row_text, rows_of}
use Rattle.graph_commands.proofs.Below.{from_on, headed-parts, puts-more}
use Rattle.graph_commands.proofs.Putting.{prefix_before, prefix_behind, prefix_of_put, prefix_within}
use Rattle.graph_commands.proofs.columns.write_columns.Goals as goal

-- of the names a prefix was put
pub returns-in_err-put_row-clause-err : goal.returns-in_err-put_row-clause-err
returns-in_err-put_row-clause-err g c =
    let p = err_from_is_err_and c.from_residual.result c.from_residual.ensures.1 in
    let sinks = map sink_values c.args.sinks.now in
    rw p.1 (prefix_before _ _ [] (row_text c.args.job.now sinks None) _
    (rw c.new-piece.ensures at c.in_err-put_row.ensures.err))

-- of a step's line a prefix was put
pub returns-in_err-put_row-2-clause-err : goal.returns-in_err-put_row-2-clause-err
returns-in_err-put_row-2-clause-err g c =
    let passed_on = c.from_residual-in_err-put_row-2 in
    let p = err_from_is_err_and passed_on.result passed_on.ensures.1 in
    let job = c.args.job.now in
    let sinks = map sink_values c.args.sinks.now in
    let head = row_text job sinks None in
    let row : ℕ → List ℕ = λ n. row_text job sinks (Some n) in
    let n = c.loop-n.n in
    let end = rows_of job sinks in
    let less : n < end = omega (arith, c.loop-n-test.true, c.row_count-n-end.ensures) in
    let put = head ++ flat_map row (range_with_len 0 n) in
    rw p.1 (prefix_within _ _ [] (put ++ row n) (from_on row (n + 1) end) (columns_text job sinks)
    (headed-parts head row n end less)
    (prefix_behind _ _ _ [] c.loop-n.piece put (row n) c.loop-n.invariant c.in_err-put_row-2.ensures.err))

-- one more line was put
pub loop-n-preserved : goal.loop-n-preserved
loop-n-preserved g c =
    let job = c.args.job.now in
    let sinks = map sink_values c.args.sinks.now in
    let row : ℕ → List ℕ = λ n. row_text job sinks (Some n) in
    puts-more _ _ _ c.loop-n.piece c.put_row-in-loop-n.new.self (row_text job sinks None) row c.loop-n.n
    c.loop-n.invariant c.in_ok-put_row-2.ensures.ok

-- of what waited at the end a prefix was written
pub returns-clause-err : goal.returns-clause-err
returns-clause-err g c =
    let job = c.args.job.now in
    let sinks = map sink_values c.args.sinks.now in
    let all : c.loop-n.n ≡ rows_of job sinks =
    omega (arith, c.loop-n-test.false, c.loop-n.auto.n-end, c.row_count-n-end.ensures) in
    on_err_weaker c.hand_over.result
    (prefix_of_put _ _ _ [] c.loop-n.piece (columns_text job sinks) (rw all at c.loop-n.invariant))
    c.hand_over.ensures.err

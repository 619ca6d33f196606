use Rattle.std.proofs.lemmas.Result.{err_from_is_err_and, on_err_weaker, on_ok_weaker}
use Rattle.graph_commands.proofs.Noting.{check-both, check-first, check-part}
use Rattle.graph_commands.proofs.answered.write_check.Goals as goal

-- the first line was not written whole
pub returns-in_err-write_counts-clause-err : goal.returns-in_err-write_counts-clause-err
returns-in_err-write_counts-clause-err g c =
    let failed = err_from_is_err_and c.from_residual.result c.from_residual.ensures.1 in
    rw failed.1 (check-first c.args.explain c.args.job.now.graph _ _ _ c.notes-more.ensures
    (rw c.graph.ensures.graph at c.in_err-write_counts.ensures.err))

-- it was, and the lines behind it too
pub returns-clause-ok : goal.returns-clause-ok
returns-clause-ok g c =
    on_ok_weaker c.send.result
    (λ lines. check-both c.args.explain c.args.job.now.graph _ _ _ _ c.notes-more.ensures
    (rw c.graph.ensures.graph at c.in_ok-write_counts.ensures.ok)
    (rw c.deref.ensures.value at lines))
    c.send.ensures.ok

-- or a prefix of them
pub returns-clause-err : goal.returns-clause-err
returns-clause-err g c =
    on_err_weaker c.send.result
    (λ prefix. check-part c.args.explain c.args.job.now.graph _ _ _ _ c.notes-more.ensures
    (rw c.graph.ensures.graph at c.in_ok-write_counts.ensures.ok)
    (rw c.deref.ensures.value at prefix))
    c.send.ensures.err

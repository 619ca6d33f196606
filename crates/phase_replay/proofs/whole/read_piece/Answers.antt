use Rattle.std.proofs.lemmas.Result.{err_from_is_err_and}
use Rattle.phase_replay.proofs.Reading.{stops_failed}
use Rattle.phase_replay.proofs.whole.read_piece.Goals as goal

-- The read failed, and gave nothing.
pub returns-in_err-count-clause-err : goal.returns-in_err-count-clause-err
returns-in_err-count-clause-err g c =
    let p = err_from_is_err_and c.from_residual.result c.from_residual.ensures.1 in
    rw p.1 (p.2, stops_failed _ _ _ _ c.in_err-count.ensures.bytes c.in_err-count.ensures.uncounted c.in_err-count.ensures.failed)

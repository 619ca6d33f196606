use Rattle.std.proofs.lemmas.Result.{err_from_is_err_and}
use Rattle.phase_replay.proofs.Owing.{owes_prefix}
use Rattle.phase_replay.proofs.replayer.Replayer.hand_over.Goals as goal

-- A prefix of the replies that wait was written.
pub returns-in_err-send-clause-err : goal.returns-in_err-send-clause-err
returns-in_err-send-clause-err g c =
    let p = err_from_is_err_and c.from_residual.result c.from_residual.ensures.1 in
    rw p.1 (λ later owed owes. owes_prefix _ _ c.args.self.now c.as_slice.result.now later owed c.as_slice.ensures.value owes c.in_err-send.ensures.err)

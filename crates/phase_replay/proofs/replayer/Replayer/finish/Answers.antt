use Rattle.std.proofs.Common.{[], sym, ◌∙◌, subst}
use Rattle.std.proofs.lemmas.Result.{err_from_is_err_and}
use Rattle.std.specs.Io.KnownBytes.{Appends}
use Rattle.watched_io.specs.Prefix.{AppendsPrefix}
use Rattle.phase_replay.proofs.replayer.Replayer.finish.Goals as goal

-- The replies that wait are all that is owed, and a prefix of them was written.
pub returns-in_err-send-clause-err : goal.returns-in_err-send-clause-err
returns-in_err-send-clause-err g c =
    let p = err_from_is_err_and c.from_residual.result c.from_residual.ensures.1 in
    rw p.1 (λ owed owes. subst (AppendsPrefix _ _) (c.as_slice.ensures.value ∙ sym (c.in-Ok.ensures.ok owed owes)) c.in_err-send.ensures.err)

-- All of them were written.
pub returns-clause-ok : goal.returns-clause-ok
returns-clause-ok g c = λ owed owes. subst (Appends _ _) (c.as_slice.ensures.value ∙ sym (c.in-Ok.ensures.ok owed owes)) c.in_ok-send.ensures.ok

-- Memory ran out, and the replies that waited, or a prefix of them, were written.
pub returns-in_default-clause-err : goal.returns-in_default-clause-err
returns-in_default-clause-err g c = λ owed owes. c.stop.ensures.prefix c.args.self.now [] owed owes c.in_default.ensures.err

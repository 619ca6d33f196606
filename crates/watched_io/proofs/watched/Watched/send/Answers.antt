use Rattle.watched_io.proofs.Writing.{prefix_of_taken, prefix_of_kept, written_more, written_within}
use Rattle.watched_io.proofs.watched.Watched.send.Goals as goal

-- What was written before is a prefix, and the write that took nothing adds nothing.
pub returns-in-Ok-eq0-clause-err : goal.returns-in-Ok-eq0-clause-err
returns-in-Ok-eq0-clause-err g c = rw c.fail.ensures.inner (prefix_of_taken _ _ _ _ (written_more _ _ _ _ _ _ c.loop-sent.invariant.1 c.in-Ok-eq0.ensures.bytes))

-- The write took `count` bytes more.
pub loop-sent-preserved : goal.loop-sent-preserved
loop-sent-preserved g c = (written_within _ _ _ c.loop-sent.invariant.0 c.in-Ok.ensures.bound, written_more _ _ _ _ _ _ c.loop-sent.invariant.1 c.in-Ok.ensures.bytes, c.loop-sent.invariant.2, c.loop-sent.invariant.3)

-- The failed write kept what the writer holds.
pub returns-in-Err-clause-err : goal.returns-in-Err-clause-err
returns-in-Err-clause-err g c = rw c.fail-in-Err.ensures.inner (prefix_of_kept _ _ _ _ _ c.loop-sent.invariant.1 c.in-Err.ensures.bytes)

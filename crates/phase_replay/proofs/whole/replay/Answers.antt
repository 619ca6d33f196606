use Rattle.std.proofs.lemmas.Result.{on_ok_weaker, on_err_weaker}
use Rattle.phase_replay.proofs.ReplayedLemmas.{replayed_all, replayed_prefix}
use Rattle.phase_replay.proofs.whole.replay.Goals as goal

-- What was read is the script.
pub returns-clause-ok : goal.returns-clause-ok
returns-clause-ok g c = on_ok_weaker c.replay_pieces.result (replayed_all _ _ _ _) c.replay_pieces.ensures.all

-- What was read is a prefix of the script.
pub returns-clause-err : goal.returns-clause-err
returns-clause-err g c = on_err_weaker c.replay_pieces.result (replayed_prefix _ _ _ _) c.replay_pieces.ensures.prefix

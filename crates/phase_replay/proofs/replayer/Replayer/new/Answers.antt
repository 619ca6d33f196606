use Rattle.phase_replay.proofs.Owing.{owes_all}
use Rattle.phase_replay.proofs.replayer.Replayer.new.Goals as goal

-- Nothing has been read, so the whole script is still to come.
pub returns : goal.returns
returns c = λ script. owes_all _ script c.new.ensures c.new-2.ensures c.new-4.ensures.items

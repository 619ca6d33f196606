use Rattle.std.proofs.Common.{[], rules}
use Rattle.phase_replay.proofs.Owing.{owes_waiting, owes_last}
use Rattle.phase_replay.proofs.replayer.Replayer.last.Goals as goal

-- No line was begun.
pub returns-then-is_empty-clause-ok : goal.returns-then-is_empty-clause-ok
returns-then-is_empty-clause-ok c = λ owed. owes_waiting c.args.self.now owed (search rules)

-- The line that was begun is answered.
pub returns-clause-ok : goal.returns-clause-ok
returns-clause-ok c = λ owed. owes_last c.args.self.now c.answer.new.self owed (search rules) (c.in_ok-answer.ensures.ok [] owed) c.in_ok-answer.ensures.begun

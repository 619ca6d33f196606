-- The row of a phase that is not complete did not apply.
use Rattle.phase_history.proofs.Answered.{ended_tells, block_ended_tells}
use Rattle.phase_history.proofs.laws.others.ended.Goals as goal

pub returns-clause-quiet : goal.returns-clause-quiet
returns-clause-quiet c = λ value limits h task reply. (ended_tells value limits h task reply).0

pub returns-clause-got_all : goal.returns-clause-got_all
returns-clause-got_all c = λ value limits h task reply. (ended_tells value limits h task reply).1

pub returns-clause-block_quiet : goal.returns-clause-block_quiet
returns-clause-block_quiet c = λ limits h task n reply. (block_ended_tells limits h task n reply).0

pub returns-clause-block_got_all : goal.returns-clause-block_got_all
returns-clause-block_got_all c = λ limits h task n reply. (block_ended_tells limits h task n reply).1

-- What a wait is answered is what its task then has received last.
use Rattle.phase_shared.proofs.PartSteps.{wait_gets, refused_wait, wait_ended}
use Rattle.phase_shared.proofs.laws.waits.Goals as goal

pub returns-clause-got : goal.returns-clause-got
returns-clause-got c = wait_gets

pub returns-clause-refused : goal.returns-clause-refused
returns-clause-refused c = refused_wait

pub returns-clause-ended : goal.returns-clause-ended
returns-clause-ended c value limits me old new w = (wait_ended value limits me old new w).0

pub returns-clause-got_all : goal.returns-clause-got_all
returns-clause-got_all c value limits me old new w = (wait_ended value limits me old new w).1

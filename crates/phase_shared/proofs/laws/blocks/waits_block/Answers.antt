-- What a wait is answered is what its task then has received last.
use Rattle.phase_shared.proofs.BlockPartSteps.{block_gets, block_ended, block_end_seen, refused_wait_block}
use Rattle.phase_shared.proofs.laws.blocks.waits_block.Goals as goal

pub returns-clause-got : goal.returns-clause-got
returns-clause-got c value limits me old new old_out new_out phase count w = block_gets value limits me old new old_out new_out phase count w

pub returns-clause-ended : goal.returns-clause-ended
returns-clause-ended c value limits me old new old_out new_out w = block_ended value limits me old new old_out new_out w

pub returns-clause-refused : goal.returns-clause-refused
returns-clause-refused c value limits me old new old_out new_out refusal w = refused_wait_block value limits me old new old_out new_out refusal w

pub returns-clause-closed : goal.returns-clause-closed
returns-clause-closed c value limits me old new old_out new_out w = (block_end_seen value limits me old new old_out new_out w).0

pub returns-clause-got_all : goal.returns-clause-got_all
returns-clause-got_all c value limits me old new old_out new_out w = (block_end_seen value limits me old new old_out new_out w).1

-- The signal's event is the task's own, with its lists.
use Rattle.phase_shared.proofs.BlockPartSteps.{block_sends, block_received, refused_block}
use Rattle.phase_shared.proofs.laws.blocks.signals_block.Goals as goal

pub returns-clause-sent : goal.returns-clause-sent
returns-clause-sent g c limits me phase parcels single old new s = block_sends g.A.Accumulate.operation limits me parcels single old new phase s

pub returns-clause-received : goal.returns-clause-received
returns-clause-received g c value limits me parcels single old new answer s = block_received g.A.Accumulate.operation limits me parcels single old new value answer s

pub returns-clause-refused : goal.returns-clause-refused
returns-clause-refused g c limits me parcels single old new refusal s = refused_block g.A.Accumulate.operation limits me parcels single old new refusal s

-- Of one parcel there is one list of sends.
use Rattle.phase_shared.proofs.BlockPartSteps.{plain_of_block, block_of_plain}
use Rattle.phase_shared.proofs.laws.blocks.plain_signals.Goals as goal

pub returns-clause-plain : goal.returns-clause-plain
returns-clause-plain g c limits me held single old new answer s = plain_of_block g.A.Accumulate.operation limits me held single old new answer s

pub returns-clause-block : goal.returns-clause-block
returns-clause-block g c limits me held single old new answer s = block_of_plain g.A.Accumulate.operation limits me held single old new answer s

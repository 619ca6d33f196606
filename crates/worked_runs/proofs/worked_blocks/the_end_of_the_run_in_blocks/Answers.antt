-- By the laws, at the last moment; and by the definitions alone.
use Rattle.std.proofs.Common.{refl}
use Rattle.worked_runs.specs.WorkedBlocks.{in_blocks, block_end}
use Rattle.worked_runs.proofs.RunTests.{is_over, nowhere_answered}
use Rattle.worked_runs.proofs.WorkedBlocks.{in_blocks-is, in_blocks-ready}
use Rattle.worked_runs.proofs.worked_blocks.the_end_of_the_run_in_blocks.Goals as goal

pub returns-clause-answer : goal.returns-clause-answer
returns-clause-answer c =
    c.answers.ensures in_blocks block_end in_blocks-ready c.a_run_in_blocks.ensures.end
    ((is_over in_blocks block_end).sound refl in_blocks-is c.a_run_in_blocks.ensures.end)
    (c.met_none.ensures in_blocks block_end ((nowhere_answered in_blocks block_end).sound refl))

pub returns-clause-least : goal.returns-clause-least
returns-clause-least c = refl

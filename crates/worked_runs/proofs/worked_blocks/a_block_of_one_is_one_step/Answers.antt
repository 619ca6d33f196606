-- The block's event is the step's by computing, and the next one, as a test says.
use Rattle.std.proofs.Common.{[], ◌∷◌, pos, refl, arith}
use Rattle.worked_runs.specs.WorkedBlocks.{in_blocks, three_signals, three_taken, one_sample, after_three_waits, after_three_taken}
use Rattle.worked_runs.proofs.BlockTests.{is_next}
use Rattle.worked_runs.proofs.WorkedBlocks.{in_blocks-is}
use Rattle.worked_runs.proofs.WorkedRun.{part}
use Rattle.worked_runs.proofs.worked_blocks.a_block_of_one_is_one_step.Goals as goal

pub returns-clause-moment : goal.returns-clause-moment
returns-clause-moment c = refl

pub returns-clause-signals : goal.returns-clause-signals
returns-clause-signals c =
    let ran =
    part c.turns_lead_on.ensures in_blocks after_three_waits (three_signals ∷ three_taken ∷ [])
    in_blocks-is refl c.a_run_in_blocks.ensures.got in
    c.next_blocks_are_moves.ensures.samples in_blocks after_three_taken 0 0 0 1 (pos 4 ∷ [])
    ((is_next in_blocks after_three_taken one_sample).sound refl in_blocks-is ran).1
    (ran.tasks 0 (omega arith))

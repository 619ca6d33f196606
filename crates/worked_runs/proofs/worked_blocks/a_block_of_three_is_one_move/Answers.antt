-- Each is the next event, as a test says.
use Rattle.std.proofs.Common.{[], ◌∷◌, pos, refl, arith}
use Rattle.phase_accum.specs.declared.outcome.Outcome.TheVariants.{Value}
use Rattle.worked_runs.specs.WorkedBlocks.{in_blocks, block_opening, three_samples, three_waits, three_signals, after_three_samples, after_three_waits}
use Rattle.worked_runs.proofs.BlockTests.{is_next}
use Rattle.worked_runs.proofs.WorkedBlocks.{in_blocks-is}
use Rattle.worked_runs.proofs.worked_blocks.a_block_of_three_is_one_move.Goals as goal

pub returns-clause-samples : goal.returns-clause-samples
returns-clause-samples c =
    let ran = c.a_run_in_blocks.ensures.opening in
    c.next_blocks_are_moves.ensures.samples in_blocks block_opening 0 0 0 1
    (pos 1 ∷ pos 2 ∷ pos 3 ∷ [])
    ((is_next in_blocks block_opening three_samples).sound refl in_blocks-is ran).1
    (ran.tasks 0 (omega arith))

pub returns-clause-waits : goal.returns-clause-waits
returns-clause-waits c =
    let ran = c.a_run_in_blocks.ensures.signalled in
    c.next_blocks_are_moves.ensures.first_waits in_blocks after_three_samples 1 0 0 2
    (Value (pos 1) ∷ Value (pos 2) ∷ Value (pos 3) ∷ [])
    ((is_next in_blocks after_three_samples three_waits).sound refl in_blocks-is ran).1

pub returns-clause-signals : goal.returns-clause-signals
returns-clause-signals c =
    let ran = c.a_run_in_blocks.ensures.got in
    c.next_blocks_are_moves.ensures.signals in_blocks after_three_waits 1 0 1 1
    (pos 1 ∷ pos 3 ∷ pos 5 ∷ [])
    ((is_next in_blocks after_three_waits three_signals).sound refl in_blocks-is ran).1
    (ran.tasks 1 (omega arith))

pub returns-clause-source : goal.returns-clause-source
returns-clause-source c =
    c.own_blocks_keep.ensures.signals in_blocks block_opening after_three_samples 0 0 0 1
    (pos 1 ∷ pos 2 ∷ pos 3 ∷ []) in_blocks-is (omega arith) (returns-clause-samples c)
    (c.a_run_in_blocks.ensures.opening.tasks 0 (omega arith))

pub returns-clause-filter : goal.returns-clause-filter
returns-clause-filter c =
    c.own_blocks_keep.ensures.waits in_blocks after_three_samples after_three_waits 1 0 0 2
    (Value (pos 1) ∷ Value (pos 2) ∷ Value (pos 3) ∷ []) in_blocks-is (omega arith)
    (returns-clause-waits c) (c.a_run_in_blocks.ensures.signalled.tasks 1 (omega arith))

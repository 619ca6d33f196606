-- Each event is tested by computing.
use Rattle.std.proofs.Common.{[], ◌∷◌, refl, arith}
use Rattle.worked_runs.specs.Worked.{founded}
use Rattle.worked_runs.specs.WorkedBlocks.{in_blocks, block_numbers, block_opening, three_samples, three_waits, three_signals, three_taken, one_sample, one_value, last_blocks, after_three_samples, after_three_waits, after_one_sample, before_join, after_join, by_out_at_3}
use Rattle.worked_runs.proofs.OpeningTests.{has_opened}
use Rattle.worked_runs.proofs.WorkedBlocks.{in_blocks-is, late-next}
use Rattle.worked_runs.proofs.WorkedRun.{part}
use Rattle.worked_runs.proofs.worked_blocks.a_run_in_blocks.Goals as goal

pub returns-clause-graph : goal.returns-clause-graph
returns-clause-graph c = in_blocks-is

pub returns-clause-opening : goal.returns-clause-opening
returns-clause-opening c =
    c.opening.ensures in_blocks block_opening in_blocks-is
    ((has_opened in_blocks (founded ∷ founded ∷ []) block_numbers (0 ∷ 0 ∷ 0 ∷ 3 ∷ [])).sound refl
    in_blocks-is)

pub returns-clause-signalled : goal.returns-clause-signalled
returns-clause-signalled c =
    part c.turns_lead_on.ensures in_blocks block_opening (three_samples ∷ []) in_blocks-is refl
    (returns-clause-opening c)

pub returns-clause-got : goal.returns-clause-got
returns-clause-got c =
    part c.turns_lead_on.ensures in_blocks after_three_samples (three_waits ∷ []) in_blocks-is refl
    (returns-clause-signalled c)

pub returns-clause-before_join : goal.returns-clause-before_join
returns-clause-before_join c =
    part c.turns_lead_on.ensures in_blocks after_one_sample one_value in_blocks-is refl
    (part c.turns_lead_on.ensures in_blocks after_three_waits
    (three_signals ∷ three_taken ∷ one_sample ∷ []) in_blocks-is refl
    (returns-clause-got c))

pub returns-clause-joined : goal.returns-clause-joined
returns-clause-joined c =
    c.blocks_keep.ensures.child_now in_blocks before_join 2 1 2 3 3 by_out_at_3 in_blocks-is
    (omega arith) late-next (returns-clause-before_join c)

pub returns-clause-end : goal.returns-clause-end
returns-clause-end c =
    part c.turns_lead_on.ensures in_blocks after_join last_blocks in_blocks-is refl
    (returns-clause-joined c)

-- By the laws, from the moment before.
use Rattle.std.proofs.Common.{refl, arith}
use Rattle.worked_runs.specs.WorkedBlocks.{in_blocks, before_join, late_joins, after_join, by_out_at_3}
use Rattle.worked_runs.proofs.Histories.{turn_begins, grown}
use Rattle.worked_runs.proofs.WorkedBlocks.{in_blocks-is, late-next}
use Rattle.worked_runs.proofs.worked_blocks.late_joins_now.Goals as goal

pub returns-clause-moved : goal.returns-clause-moved
returns-clause-moved c =
    c.next_blocks_are_moves.ensures.child_now in_blocks before_join 2 1 2 3 3 by_out_at_3 late-next

pub returns-clause-begins : goal.returns-clause-begins
returns-clause-begins c = refl

pub returns-clause-parent : goal.returns-clause-parent
returns-clause-parent c =
    let was = c.a_run_in_blocks.ensures.before_join in
    c.own_blocks_keep.ensures.register_now in_blocks before_join after_join 2 1 2 3 3 by_out_at_3
    in_blocks-is (omega arith)
    (grown in_blocks before_join after_join 2 in_blocks-is (omega arith) was
    c.a_run_in_blocks.ensures.joined (turn_begins in_blocks late_joins before_join))
    (returns-clause-moved c) (was.tasks 2 (omega arith))

pub returns-clause-child : goal.returns-clause-child
returns-clause-child c =
    let was = c.a_run_in_blocks.ensures.before_join in
    c.own_blocks_keep.ensures.child_now in_blocks before_join after_join 2 1 2 3 3 by_out_at_3
    in_blocks-is (omega arith) (was.phasers 1 (omega arith)).legal (returns-clause-moved c)
    (was.tasks 2 (omega arith)) (was.tasks 3 (omega arith))

-- By the boundary of late.
use Rattle.std.proofs.Common.{◌≤◌, refl, arith, inr}
use Rattle.worked_runs.specs.WorkedBlocks.{by_out_at_3}
use Rattle.worked_runs.proofs.worked_blocks.no_block_passes_a_child.Goals as goal

pub returns-clause-cut : goal.returns-clause-cut
returns-clause-cut c = refl

pub returns-clause-goes_past : goal.returns-clause-goes_past
returns-clause-goes_past c = λ may.
    (let before : 4 ≤ 3 =
    may.children 1 3 2 by_out_at_3 (omega arith) refl refl refl refl (inr (0, omega arith, refl)) in
    omega (arith, before))

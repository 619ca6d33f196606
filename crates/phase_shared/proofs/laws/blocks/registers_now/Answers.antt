-- The child's number was never used.
use Rattle.phase_shared.proofs.BlockPartSteps.{parent_stays_now, child_has_none_now, child_starts_now}
use Rattle.phase_shared.proofs.laws.blocks.registers_now.Goals as goal

pub returns-clause-parent : goal.returns-clause-parent
returns-clause-parent c = parent_stays_now

pub returns-clause-child : goal.returns-clause-child
returns-clause-child c = child_has_none_now

pub returns-clause-start : goal.returns-clause-start
returns-clause-start c = child_starts_now

-- The child's number was never used.
use Rattle.phase_shared.proofs.PartSteps.{parent_stays, refused_register, child_has_none, child_starts}
use Rattle.phase_shared.proofs.laws.registers.Goals as goal

pub returns-clause-parent : goal.returns-clause-parent
returns-clause-parent c = parent_stays

pub returns-clause-refused : goal.returns-clause-refused
returns-clause-refused c = refused_register

pub returns-clause-child : goal.returns-clause-child
returns-clause-child c = child_has_none

pub returns-clause-start : goal.returns-clause-start
returns-clause-start c = child_starts

-- Another task's event leaves the part.
use Rattle.phase_shared.proofs.PartSteps.{PartStays-others, lists_stay}
use Rattle.phase_shared.proofs.laws.parts_stay.Goals as goal

pub returns-clause-one : goal.returns-clause-one
returns-clause-one c = PartStays-others

pub returns-clause-lists : goal.returns-clause-lists
returns-clause-lists c = lists_stay

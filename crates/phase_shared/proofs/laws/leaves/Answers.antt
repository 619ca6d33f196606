-- A drop sends and receives nothing.
use Rattle.phase_shared.proofs.PartSteps.{leaver_stays, leaver_dropped}
use Rattle.phase_shared.proofs.laws.leaves.Goals as goal

pub returns-clause-part : goal.returns-clause-part
returns-clause-part c = leaver_stays

pub returns-clause-dropped : goal.returns-clause-dropped
returns-clause-dropped c = leaver_dropped

-- Numbers are used once, so who dropped does not come back.
use Rattle.phase_history.proofs.Alive.{alive_law}
use Rattle.phase_history.proofs.laws.alive.Goals as goal

pub returns : goal.returns
returns c = alive_law

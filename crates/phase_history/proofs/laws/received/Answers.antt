-- What a member has received stays when it drops, and the stream only grows.
use Rattle.phase_history.proofs.Left.{received_law}
use Rattle.phase_history.proofs.laws.received.Goals as goal

pub returns : goal.returns
returns c = received_law

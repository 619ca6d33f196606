-- The stream is what the waiter got, and stays as it is.
use Rattle.phase_received.proofs.Wholes.{whole_seen, whole_stays, whole_leaves}
use Rattle.phase_received.proofs.laws.whole.Goals as goal

pub returns-clause-seen : goal.returns-clause-seen
returns-clause-seen c = whole_seen

pub returns-clause-stays : goal.returns-clause-stays
returns-clause-stays c = whole_stays

pub returns-clause-leaves : goal.returns-clause-leaves
returns-clause-leaves c = whole_leaves

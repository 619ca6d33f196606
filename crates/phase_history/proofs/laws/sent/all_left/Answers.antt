-- A member was used, and has not dropped.
use Rattle.phase_history.proofs.Signallers.{quiet_from}
use Rattle.phase_history.proofs.laws.sent.all_left.Goals as goal

pub returns : goal.returns
returns c = quiet_from

use Rattle.phase_history.specs.Histories.{members_of, done_of}
use Rattle.phase_core.proofs.Missing.{signallers-split}
use Rattle.phase_core.proofs.standing_laws.adds_up.Goals as goal

pub returns : goal.returns
returns g h = signallers-split (done_of h) (members_of h)

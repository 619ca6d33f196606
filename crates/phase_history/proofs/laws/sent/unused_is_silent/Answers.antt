-- It has no events.
use Rattle.phase_history.proofs.Sendings.{IsSilent-unused}
use Rattle.phase_history.proofs.laws.sent.unused_is_silent.Goals as goal

pub returns : goal.returns
returns c = IsSilent-unused

use Rattle.phase_shared.proofs.OneValue.{one_value_is_one_send}
use Rattle.phase_shared.proofs.one_send.try_signal_value.Goals as goal

pub try_put-requires-clause-rule : goal.try_put-requires-clause-rule
try_put-requires-clause-rule g c h good others = one_value_is_one_send _

-- By the moment after the event.
use Rattle.graph_runs.proofs.BlockReach.{samples_reached, signals_reached, waits_reached}
use Rattle.graph_runs.proofs.turns.blocks_stay_reached.Goals as goal

pub returns-clause-samples : goal.returns-clause-samples
returns-clause-samples c = samples_reached

pub returns-clause-signals : goal.returns-clause-signals
returns-clause-signals c = signals_reached

pub returns-clause-first_waits : goal.returns-clause-first_waits
returns-clause-first_waits c = waits_reached

-- The task's own part by its event, and all others' under it.
use Rattle.graph_runs.proofs.InBlocks.{next_samples_keep, next_signals_keep, first_waits_keep}
use Rattle.graph_runs.proofs.JoinsNow.{next_child_now_keeps}
use Rattle.graph_runs.proofs.moves.blocks_keep.Goals as goal

pub returns-clause-samples : goal.returns-clause-samples
returns-clause-samples c = next_samples_keep

pub returns-clause-signals : goal.returns-clause-signals
returns-clause-signals c = next_signals_keep

pub returns-clause-first_waits : goal.returns-clause-first_waits
returns-clause-first_waits c = first_waits_keep

pub returns-clause-child_now : goal.returns-clause-child_now
returns-clause-child_now c = next_child_now_keeps

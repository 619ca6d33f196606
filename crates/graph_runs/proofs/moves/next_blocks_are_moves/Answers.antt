-- Place by place of the moment after it.
use Rattle.graph_runs.proofs.InBlocks.{next_samples_are, next_signals_are, first_waits_are}
use Rattle.graph_runs.proofs.JoinsNow.{next_child_now_is}
use Rattle.graph_runs.proofs.moves.next_blocks_are_moves.Goals as goal

pub returns-clause-samples : goal.returns-clause-samples
returns-clause-samples c = next_samples_are

pub returns-clause-signals : goal.returns-clause-signals
returns-clause-signals c = next_signals_are

pub returns-clause-first_waits : goal.returns-clause-first_waits
returns-clause-first_waits c = first_waits_are

pub returns-clause-child_now : goal.returns-clause-child_now
returns-clause-child_now c = next_child_now_is

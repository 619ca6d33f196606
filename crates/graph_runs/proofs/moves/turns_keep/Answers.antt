-- The task's own part by its event, and all others' under it.
use Rattle.graph_runs.proofs.Turned.{next_sample_keeps, next_signal_keeps, first_wait_keeps, exchange_wait_keeps, next_leave_keeps, next_child_keeps}
use Rattle.graph_runs.proofs.moves.turns_keep.Goals as goal

pub returns-clause-sample : goal.returns-clause-sample
returns-clause-sample c = next_sample_keeps

pub returns-clause-signal : goal.returns-clause-signal
returns-clause-signal c = next_signal_keeps

pub returns-clause-first_wait : goal.returns-clause-first_wait
returns-clause-first_wait c = first_wait_keeps

pub returns-clause-exchange_wait : goal.returns-clause-exchange_wait
returns-clause-exchange_wait c = exchange_wait_keeps

pub returns-clause-leave : goal.returns-clause-leave
returns-clause-leave c = next_leave_keeps

pub returns-clause-child : goal.returns-clause-child
returns-clause-child c = next_child_keeps

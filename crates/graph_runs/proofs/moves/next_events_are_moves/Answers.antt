-- Place by place of the moment after it.
use Rattle.graph_runs.proofs.Turned.{next_sample_is, next_signal_is, first_wait_is, exchange_wait_is, next_leave_is, next_child_is}
use Rattle.graph_runs.proofs.moves.next_events_are_moves.Goals as goal

pub returns-clause-sample : goal.returns-clause-sample
returns-clause-sample c = next_sample_is

pub returns-clause-signal : goal.returns-clause-signal
returns-clause-signal c = next_signal_is

pub returns-clause-first_wait : goal.returns-clause-first_wait
returns-clause-first_wait c = first_wait_is

pub returns-clause-exchange_wait : goal.returns-clause-exchange_wait
returns-clause-exchange_wait c = exchange_wait_is

pub returns-clause-leave : goal.returns-clause-leave
returns-clause-leave c = next_leave_is

pub returns-clause-child : goal.returns-clause-child
returns-clause-child c = next_child_is

-- Phaser by phaser of its line.
use Rattle.graph_runs.proofs.OwnEvents.{own_signal, own_wait}
use Rattle.graph_runs.proofs.OwnLeaves.{own_leave}
use Rattle.graph_runs.proofs.ChildBegins.{child_begins}
use Rattle.graph_runs.proofs.Registering.{own_register}
use Rattle.graph_runs.proofs.moves.own_events_keep.Goals as goal

pub returns-clause-signal : goal.returns-clause-signal
returns-clause-signal c = own_signal

pub returns-clause-wait : goal.returns-clause-wait
returns-clause-wait c = own_wait

pub returns-clause-leave : goal.returns-clause-leave
returns-clause-leave c = own_leave

pub returns-clause-register : goal.returns-clause-register
returns-clause-register c = own_register

pub returns-clause-child : goal.returns-clause-child
returns-clause-child c = child_begins

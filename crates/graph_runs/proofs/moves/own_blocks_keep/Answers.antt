-- Phaser by phaser of its line.
use Rattle.graph_runs.proofs.OwnEvents.{own_signals, own_waits}
use Rattle.graph_runs.proofs.JoinsNow.{own_join, child_joins}
use Rattle.graph_runs.proofs.moves.own_blocks_keep.Goals as goal

pub returns-clause-signals : goal.returns-clause-signals
returns-clause-signals c = own_signals

pub returns-clause-waits : goal.returns-clause-waits
returns-clause-waits c = own_waits

pub returns-clause-register_now : goal.returns-clause-register_now
returns-clause-register_now c = own_join

pub returns-clause-child_now : goal.returns-clause-child_now
returns-clause-child_now c = child_joins

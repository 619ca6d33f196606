-- A new number has no events.
use Rattle.graph_runs.proofs.CallsFollow.{calls_root, calls_begin, calls_wait, calls_registered, calls_registered_now}
use Rattle.graph_runs.proofs.ends.first_calls.Goals as goal

pub returns-clause-root : goal.returns-clause-root
returns-clause-root c = calls_root

pub returns-clause-begins : goal.returns-clause-begins
returns-clause-begins c = calls_begin

pub returns-clause-waits : goal.returns-clause-waits
returns-clause-waits c = calls_wait

pub returns-clause-registers : goal.returns-clause-registers
returns-clause-registers c = calls_registered

pub returns-clause-registers_now : goal.returns-clause-registers_now
returns-clause-registers_now c = calls_registered_now

-- No row of a table has the answer.
use Rattle.phase_base.specs.declared.mode.Mode.TheVariants.{Wait}
use Rattle.phase_history.proofs.Answered.{register_refusal-never, signal_refusal-never, wait_refusal-never, drop_refusal-member}
use Rattle.phase_history.proofs.laws.others.member_is_known.Goals as goal

pub returns-clause-register : goal.returns-clause-register
returns-clause-register c = register_refusal-never

pub returns-clause-register_now : goal.returns-clause-register_now
returns-clause-register_now c = λ h parent child. register_refusal-never h parent child Wait

pub returns-clause-signal : goal.returns-clause-signal
returns-clause-signal c = signal_refusal-never

pub returns-clause-wait : goal.returns-clause-wait
returns-clause-wait c = wait_refusal-never

pub returns-clause-drop : goal.returns-clause-drop
returns-clause-drop c = drop_refusal-member

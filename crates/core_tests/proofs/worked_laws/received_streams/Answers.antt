-- What the waiter and the founder have received.
use Rattle.std.proofs.Common.{refl, pos}
use Rattle.phase_base.specs.declared.mode.Mode.TheVariants.{Wait}
use Rattle.phase_accum.specs.Values.{sum_value}
use Rattle.phase_accum.specs.declared.outcome.Outcome.TheVariants.{Value}
use Rattle.phase_history.specs.Histories.{entry_at, founder}
use Rattle.core_tests.specs.Worked.{worked_limits, two_signals, one_wait}
use Rattle.core_tests.proofs.Legal.{two_signals_is_legal, one_wait_is_legal}
use Rattle.core_tests.proofs.worked_laws.received_streams.Goals as goal

pub returns-clause-got : goal.returns-clause-got
returns-clause-got c =
    c.got.ensures sum_value worked_limits one_wait 2 (entry_at Wait 0 1) one_wait_is_legal (record { is_member = refl; waits = refl })

pub returns-clause-left : goal.returns-clause-left
returns-clause-left c =
    c.received.ensures sum_value worked_limits one_wait 0 founder one_wait_is_legal refl refl

pub returns-clause-stream : goal.returns-clause-stream
returns-clause-stream c =
    c.in_range.ensures.stream worked_limits one_wait one_wait_is_legal

pub returns-clause-answer : goal.returns-clause-answer
returns-clause-answer c =
    c.in_range.ensures.answer worked_limits two_signals 2 0 (Value (pos 7)) two_signals_is_legal refl

pub returns-clause-counted : goal.returns-clause-counted
returns-clause-counted c =
    c.received_are_counted.ensures sum_value worked_limits one_wait 2 one_wait_is_legal

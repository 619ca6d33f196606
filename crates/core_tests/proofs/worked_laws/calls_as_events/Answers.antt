-- At this history.
use Rattle.std.proofs.Common.{None}
use Rattle.phase_accum.specs.Values.{sum_value}
use Rattle.phase_base.specs.declared.mode.Mode.TheVariants.{Sig}
use Rattle.core_tests.specs.Worked.{worked_limits, one_wait, one_list}
use Rattle.core_tests.proofs.worked_laws.calls_as_events.Goals as goal

pub returns-clause-register : goal.returns-clause-register
returns-clause-register c child = c.after.ensures.register sum_value worked_limits one_wait 1 child Sig

pub returns-clause-register_now : goal.returns-clause-register_now
returns-clause-register_now c =
    c.after.ensures.register_now sum_value worked_limits one_wait 2 3

pub returns-clause-signal : goal.returns-clause-signal
returns-clause-signal c =
    c.after.ensures.signal sum_value worked_limits one_wait 1 one_list None

pub returns-clause-wait : goal.returns-clause-wait
returns-clause-wait c =
    c.after.ensures.wait sum_value worked_limits one_wait 2

pub returns-clause-wait_block : goal.returns-clause-wait_block
returns-clause-wait_block c =
    c.after.ensures.wait_block sum_value worked_limits one_wait 2 2

pub returns-clause-drop : goal.returns-clause-drop
returns-clause-drop c task = c.after.ensures.drop sum_value worked_limits one_wait task

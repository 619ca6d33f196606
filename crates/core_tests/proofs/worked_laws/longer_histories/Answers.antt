-- The later events of each.
use Rattle.std.proofs.Common.{refl, arith}
use Rattle.phase_accum.specs.Values.{sum_value}
use Rattle.core_tests.specs.Worked.{worked_limits, one_signal, one_wait, all_left, all_got}
use Rattle.core_tests.proofs.Legal.{one_signal_is_legal, one_wait_is_legal, all_left_is_legal, all_got_is_legal, one_wait_begins, all_left_begins, all_got_begins, not_empty}
use Rattle.core_tests.proofs.worked_laws.longer_histories.Goals as goal

pub returns-clause-prefix : goal.returns-clause-prefix
returns-clause-prefix c =
    c.prefix.ensures sum_value worked_limits one_signal one_wait one_signal_is_legal one_wait_is_legal one_wait_begins

pub returns-clause-closed : goal.returns-clause-closed
returns-clause-closed c =
    c.closed.ensures.stream sum_value worked_limits all_left all_got refl all_left_is_legal all_got_is_legal all_got_begins

pub returns-clause-no_signaller : goal.returns-clause-no_signaller
returns-clause-no_signaller c =
    c.closed.ensures.no_signaller worked_limits all_left all_got refl all_left_is_legal all_got_is_legal all_got_begins

pub returns-clause-legal : goal.returns-clause-legal
returns-clause-legal c =
    c.beginning_is_legal.ensures worked_limits one_signal one_wait not_empty one_wait_is_legal one_wait_begins

pub returns-clause-itself : goal.returns-clause-itself
returns-clause-itself c =
    c.beginnings.ensures.itself one_wait

pub returns-clause-transitive : goal.returns-clause-transitive
returns-clause-transitive c =
    c.beginnings.ensures.transitive one_signal one_wait all_left one_wait_begins all_left_begins

pub returns-clause-nested : goal.returns-clause-nested
returns-clause-nested c =
    c.beginnings.ensures.nested one_signal one_wait all_left
    (c.beginnings.ensures.transitive one_signal one_wait all_left one_wait_begins all_left_begins) all_left_begins (omega arith)

-- By the starts, which are computed.
use Rattle.std.proofs.Common.{refl}
use Rattle.phase_base.specs.declared.mode.Mode.TheVariants.{Sig}
use Rattle.phase_history.specs.Histories.{entry_at}
use Rattle.core_tests.specs.Worked.{worked_limits, one_wait, all_left, everyone_left}
use Rattle.core_tests.proofs.Legal.{one_wait_is_legal, all_left_is_legal, everyone_left_is_legal, everyone_gone}
use Rattle.core_tests.proofs.worked_laws.open_phases.Goals as goal

pub returns-clause-open : goal.returns-clause-open
returns-clause-open c =
    c.holds_open.ensures worked_limits one_wait 1 (entry_at Sig 0 0) one_wait_is_legal refl refl refl

pub returns-clause-dropped : goal.returns-clause-dropped
returns-clause-dropped c =
    c.all_dropped.ensures.dropped worked_limits all_left 1 (entry_at Sig 0 0) all_left_is_legal refl refl refl

pub returns-clause-done : goal.returns-clause-done
returns-clause-done c =
    c.all_dropped.ensures.done all_left refl

pub returns-clause-reached : goal.returns-clause-reached
returns-clause-reached c =
    c.top_is_reached.ensures.reached worked_limits one_wait one_wait_is_legal

pub returns-clause-below : goal.returns-clause-below
returns-clause-below c =
    c.top_is_reached.ensures.below worked_limits one_wait 1 (entry_at Sig 0 0) one_wait_is_legal refl

pub returns-clause-left : goal.returns-clause-left
returns-clause-left c =
    c.all_left.ensures worked_limits everyone_left everyone_left_is_legal everyone_gone

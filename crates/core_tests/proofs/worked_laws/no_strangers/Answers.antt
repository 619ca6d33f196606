-- The waiter of the last event was registered before it.
use Rattle.std.proofs.Common.{refl, arith}
use Rattle.phase_history.specs.declared.event.Event.TheVariants.{Waited}
use Rattle.core_tests.specs.Worked.{worked_limits, two_signals, one_wait}
use Rattle.core_tests.proofs.Legal.{one_wait_is_legal, one_wait_begins_itself}
use Rattle.core_tests.proofs.worked_laws.no_strangers.Goals as goal

pub returns-clause-registered : goal.returns-clause-registered
returns-clause-registered c =
    c.no_stranger.ensures.registered worked_limits two_signals one_wait (Waited 2 1) 2 one_wait_is_legal one_wait_begins_itself refl

pub returns-clause-used : goal.returns-clause-used
returns-clause-used c =
    c.no_stranger.ensures.used worked_limits two_signals one_wait (Waited 2 1) 2 one_wait_is_legal one_wait_begins_itself refl

pub returns-clause-unused : goal.returns-clause-unused
returns-clause-unused c =
    c.no_stranger.ensures.unused worked_limits one_wait 3 one_wait_is_legal refl

pub returns-clause-goes : goal.returns-clause-goes
returns-clause-goes c =
    c.no_standstill.ensures.goes worked_limits one_wait 1 one_wait_is_legal refl

pub returns-clause-plainly : goal.returns-clause-plainly
returns-clause-plainly c =
    c.no_standstill.ensures.plainly worked_limits one_wait 1 one_wait_is_legal refl (refl, (refl, tt)) (omega arith)

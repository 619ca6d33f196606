-- By the entries, which are computed.
use Rattle.std.proofs.Common.{refl}
use Rattle.phase_base.specs.declared.mode.Mode.TheVariants.{Sig, Single}
use Rattle.phase_history.specs.Histories.{entry_at}
use Rattle.core_tests.specs.Worked.{worked_limits, one_wait, half_turn}
use Rattle.core_tests.proofs.Legal.{one_wait_is_legal, half_turn_is_legal}
use Rattle.core_tests.proofs.worked_laws.counted_phases.Goals as goal

pub returns-clause-counted : goal.returns-clause-counted
returns-clause-counted c =
    c.counted.ensures worked_limits one_wait 1 (entry_at Sig 2 0) one_wait_is_legal refl

pub returns-clause-alive : goal.returns-clause-alive
returns-clause-alive c =
    c.alive.ensures worked_limits one_wait 1 one_wait_is_legal

pub returns-clause-mode : goal.returns-clause-mode
returns-clause-mode c start entry =
    c.mode_stays.ensures worked_limits one_wait 1 start entry one_wait_is_legal

pub returns-clause-signalled : goal.returns-clause-signalled
returns-clause-signalled c =
    c.events_add_up.ensures.signalled one_wait 1

pub returns-clause-waited : goal.returns-clause-waited
returns-clause-waited c =
    c.events_add_up.ensures.waited one_wait 2

pub returns-clause-turns : goal.returns-clause-turns
returns-clause-turns c =
    c.turns.ensures worked_limits half_turn 0 (entry_at Single 1 0) half_turn_is_legal refl refl refl

pub returns-clause-bound : goal.returns-clause-bound
returns-clause-bound c =
    c.bound.ensures worked_limits one_wait 1 one_wait_is_legal refl

pub returns-clause-top : goal.returns-clause-top
returns-clause-top c =
    c.top.ensures worked_limits one_wait one_wait_is_legal

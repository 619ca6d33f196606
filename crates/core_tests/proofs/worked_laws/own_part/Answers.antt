-- The last event is of task 2.
use Rattle.std.proofs.Common.{refl, [], ◌∷◌}
use Rattle.phase_accum.specs.Values.{sum_value}
use Rattle.core_tests.specs.Worked.{two_signals, one_wait}
use Rattle.core_tests.proofs.Legal.{others_came}
use Rattle.core_tests.proofs.worked_laws.own_part.Goals as goal

pub returns-clause-events : goal.returns-clause-events
returns-clause-events c =
    c.own_part_stays.ensures.events (1 ∷ []) two_signals one_wait 1 others_came refl

pub returns-clause-signalled : goal.returns-clause-signalled
returns-clause-signalled c =
    c.own_part_stays.ensures.signalled (1 ∷ []) two_signals one_wait 1 others_came refl

pub returns-clause-waited : goal.returns-clause-waited
returns-clause-waited c =
    c.own_part_stays.ensures.waited (1 ∷ []) two_signals one_wait 1 others_came refl

pub returns-clause-dropped : goal.returns-clause-dropped
returns-clause-dropped c =
    c.own_part_stays.ensures.dropped (1 ∷ []) two_signals one_wait 1 others_came refl

pub returns-clause-received : goal.returns-clause-received
returns-clause-received c =
    c.own_part_stays.ensures.received sum_value (1 ∷ []) two_signals one_wait 1 others_came refl

pub returns-clause-whole : goal.returns-clause-whole
returns-clause-whole c =
    c.sent_stays.ensures.whole (1 ∷ []) two_signals one_wait 1 others_came refl

pub returns-clause-phase : goal.returns-clause-phase
returns-clause-phase c =
    c.sent_stays.ensures.phase (1 ∷ []) two_signals one_wait 1 0 others_came refl

pub returns-clause-together : goal.returns-clause-together
returns-clause-together c =
    c.sent_stays.ensures.together (1 ∷ []) two_signals one_wait 0 others_came

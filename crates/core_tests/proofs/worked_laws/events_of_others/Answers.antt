-- The last event is of task 2.
use Rattle.std.proofs.Common.{refl, [], ◌∷◌}
use Rattle.phase_history.specs.declared.event.Event.TheVariants.{Waited}
use Rattle.phase_base.specs.declared.mode.Mode.TheVariants.{Sig}
use Rattle.phase_history.specs.Histories.{entry_at}
use Rattle.core_tests.specs.Worked.{worked_limits, two_signals, one_wait}
use Rattle.core_tests.proofs.Legal.{one_wait_is_legal, no_wait_of_1, others_came}
use Rattle.core_tests.proofs.worked_laws.events_of_others.Goals as goal

pub returns-clause-beginning : goal.returns-clause-beginning
returns-clause-beginning c =
    c.others_come.ensures.beginning (1 ∷ []) two_signals one_wait others_came

pub returns-clause-reflexive : goal.returns-clause-reflexive
returns-clause-reflexive c =
    c.others_come.ensures.reflexive (1 ∷ []) one_wait

pub returns-clause-event : goal.returns-clause-event
returns-clause-event c =
    c.others_come.ensures.event (1 ∷ []) two_signals (Waited 2 1) no_wait_of_1

pub returns-clause-transitive : goal.returns-clause-transitive
returns-clause-transitive c =
    c.others_come.ensures.transitive (1 ∷ []) two_signals one_wait one_wait others_came
    (c.others_come.ensures.reflexive (1 ∷ []) one_wait)

pub returns-clause-fewer : goal.returns-clause-fewer
returns-clause-fewer c =
    c.others_come.ensures.fewer (1 ∷ []) [] two_signals one_wait (λ task stands. absurd (cc)) others_came

pub returns-clause-entry : goal.returns-clause-entry
returns-clause-entry c =
    c.entry_stays.ensures worked_limits (1 ∷ []) two_signals one_wait 1 (entry_at Sig 2 0) others_came refl one_wait_is_legal refl

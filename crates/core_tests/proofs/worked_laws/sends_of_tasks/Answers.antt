-- Task 1 alone has signalled.
use Rattle.std.proofs.Common.{refl, None, [], ◌∷◌, arith}
use Rattle.phase_accum.specs.Values.{sum_value}
use Rattle.phase_base.specs.declared.mode.Mode.TheVariants.{Sig}
use Rattle.phase_history.specs.Histories.{entry_at}
use Rattle.core_tests.specs.Worked.{worked_limits, one_wait, late_child}
use Rattle.core_tests.proofs.Legal.{one_wait_is_legal, late_child_is_legal, only_1_signalled, only_1_sent}
use Rattle.core_tests.proofs.worked_laws.sends_of_tasks.Goals as goal

pub returns-clause-gathered : goal.returns-clause-gathered
returns-clause-gathered c =
    c.sends_are_gathered.ensures sum_value one_wait (1 ∷ []) 0 c.sum_exchanges.ensures refl only_1_signalled

pub returns-clause-one_sender : goal.returns-clause-one_sender
returns-clause-one_sender c =
    c.one_sender.ensures one_wait 1 0 only_1_sent

pub returns-clause-placed : goal.returns-clause-placed
returns-clause-placed c =
    c.sent_in_turn.ensures.placed worked_limits one_wait 1 1 (entry_at Sig 0 0) one_wait_is_legal refl

pub returns-clause-below : goal.returns-clause-below
returns-clause-below c =
    c.sent_in_turn.ensures.below worked_limits late_child 3 0 (entry_at Sig 1 0) late_child_is_legal refl (omega arith)

pub returns-clause-counted : goal.returns-clause-counted
returns-clause-counted c =
    c.sent_in_turn.ensures.counted one_wait 1

pub returns-clause-named : goal.returns-clause-named
returns-clause-named c =
    c.each_phase_is_named.ensures.named worked_limits one_wait 0 one_wait_is_legal (omega arith)

pub returns-clause-single : goal.returns-clause-single
returns-clause-single c =
    c.each_phase_is_named.ensures.single worked_limits one_wait 0 None one_wait_is_legal (omega arith) (refl, (refl, tt))

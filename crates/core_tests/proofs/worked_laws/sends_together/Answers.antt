-- Task 1 alone has signalled.
use Rattle.std.proofs.Common.{refl, [], ◌∷◌}
use Rattle.core_tests.specs.Worked.{worked_limits, one_wait}
use Rattle.core_tests.proofs.Legal.{one_wait_is_legal, only_1_signalled, one_has_sent}
use Rattle.core_tests.proofs.worked_laws.sends_together.Goals as goal

pub returns-clause-alone : goal.returns-clause-alone
returns-clause-alone c =
    c.gathered_alone.ensures one_wait (1 ∷ []) 0 refl only_1_signalled one_has_sent

pub returns-clause-sendable : goal.returns-clause-sendable
returns-clause-sendable c = c.sent_are_lists.ensures worked_limits one_wait 1 one_wait_is_legal

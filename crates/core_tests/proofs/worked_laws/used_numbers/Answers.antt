-- By the starts, which are computed.
use Rattle.std.proofs.Common.{refl, [], ◌∷◌, arith}
use Rattle.phase_accum.specs.Values.{sum_value}
use Rattle.phase_base.specs.declared.mode.Mode.TheVariants.{Wait}
use Rattle.phase_history.specs.Histories.{entry_at}
use Rattle.core_tests.specs.Worked.{worked_limits, founded, one_child, one_signal, one_wait}
use Rattle.core_tests.proofs.Legal.{founded_is_legal, one_child_is_legal, one_wait_is_legal, one_wait_begins, one_child_begins, only_the_founder, nobody_came, children_stand, not_empty_founded}
use Rattle.core_tests.proofs.worked_laws.used_numbers.Goals as goal

pub returns-clause-never : goal.returns-clause-never
returns-clause-never c =
    c.unused.ensures.never sum_value worked_limits one_wait 3 one_wait_is_legal refl

pub returns-clause-above : goal.returns-clause-above
returns-clause-above c =
    c.unused.ensures.above sum_value worked_limits one_wait 4 one_wait_is_legal (omega arith)

pub returns-clause-silent : goal.returns-clause-silent
returns-clause-silent c =
    c.unused_is_silent.ensures worked_limits one_wait 3 one_wait_is_legal refl

pub returns-clause-used : goal.returns-clause-used
returns-clause-used c =
    c.use_stays.ensures.used worked_limits one_signal one_wait 2 one_wait_is_legal one_wait_begins refl

pub returns-clause-start : goal.returns-clause-start
returns-clause-start c =
    c.use_stays.ensures.start worked_limits one_signal one_wait 2 (entry_at Wait 0 0) one_wait_is_legal one_wait_begins refl

pub returns-clause-member : goal.returns-clause-member
returns-clause-member c =
    c.member_is_used.ensures one_wait 1 refl

pub returns-clause-only : goal.returns-clause-only
returns-clause-only c =
    c.only_used_stays.ensures worked_limits (0 ∷ []) founded founded not_empty_founded nobody_came founded_is_legal only_the_founder

pub returns-clause-descend : goal.returns-clause-descend
returns-clause-descend c =
    c.all_descend.ensures worked_limits one_child 0 (0 ∷ 1 ∷ []) one_child_is_legal one_child_begins refl children_stand

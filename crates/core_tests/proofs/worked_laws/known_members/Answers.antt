-- Tasks 1 and 2 are registered.
use Rattle.std.proofs.Common.{refl, None}
use Rattle.phase_base.specs.declared.mode.Mode.TheVariants.{Sig}
use Rattle.core_tests.specs.Worked.{worked_limits, one_wait, two_lists}
use Rattle.core_tests.proofs.worked_laws.known_members.Goals as goal

pub returns-clause-register : goal.returns-clause-register
returns-clause-register c =
    c.member_is_known.ensures.register one_wait 1 3 Sig refl

pub returns-clause-register_now : goal.returns-clause-register_now
returns-clause-register_now c =
    c.member_is_known.ensures.register_now one_wait 2 3 refl

pub returns-clause-signal : goal.returns-clause-signal
returns-clause-signal c =
    c.member_is_known.ensures.signal worked_limits one_wait 1 two_lists None refl

pub returns-clause-wait : goal.returns-clause-wait
returns-clause-wait c =
    c.member_is_known.ensures.wait worked_limits one_wait 2 1 refl

pub returns-clause-drop : goal.returns-clause-drop
returns-clause-drop c =
    c.member_is_known.ensures.drop one_wait 1 refl

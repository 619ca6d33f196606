-- Each reply is computed.
use Rattle.std.proofs.Common.{refl, None, pos, [], ◌∷◌, arith}
use Rattle.phase_accum.specs.Values.{sum_value}
use Rattle.phase_accum.specs.declared.outcome.Outcome.TheVariants.{Value}
use Rattle.phase_history.specs.declared.call.Call.TheVariants.{Signal}
use Rattle.core_tests.specs.Worked.{worked_limits, two_signals, one_wait, all_got, one_list, two_lists}
use Rattle.core_tests.proofs.Legal.{one_wait_is_legal}
use Rattle.core_tests.proofs.worked_laws.answered_calls.Goals as goal

pub returns-clause-wait : goal.returns-clause-wait
returns-clause-wait c =
    c.answers.ensures sum_value worked_limits two_signals 2 0 (Value (pos 7)) refl

pub returns-clause-block : goal.returns-clause-block
returns-clause-block c =
    c.block_answers.ensures sum_value worked_limits two_signals 2 2 0 2 refl

pub returns-clause-quiet : goal.returns-clause-quiet
returns-clause-quiet c =
    c.ended.ensures.quiet sum_value worked_limits all_got 2 refl

pub returns-clause-got_all : goal.returns-clause-got_all
returns-clause-got_all c =
    c.ended.ensures.got_all sum_value worked_limits all_got 2 refl

pub returns-clause-legal : goal.returns-clause-legal
returns-clause-legal c =
    c.accepted.ensures sum_value worked_limits one_wait (Signal 1 one_list None) one_wait_is_legal ((tt, omega arith, tt), tt)

pub returns-clause-refused : goal.returns-clause-refused
returns-clause-refused c =
    c.block_signals.ensures worked_limits one_wait 1 two_lists None refl

pub returns-clause-leaves : goal.returns-clause-leaves
returns-clause-leaves c =
    c.block_leaves.ensures one_wait 1 [] ([] ∷ []) None refl

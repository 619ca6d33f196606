-- Task 3 joins where two phases are complete, though its parent has got none.
use Rattle.std.proofs.Common.{refl}
use Rattle.thread_tests.specs.Worked.{worked_limits, one_block, late_waiter, waiter, late}
use Rattle.thread_tests.proofs.CallsLemmas.{late_waiter_is_legal, joined_now}
use Rattle.thread_tests.proofs.worked_laws.late_waiters.Goals as goal

pub returns-clause-parent : goal.returns-clause-parent
returns-clause-parent c = c.registers_now.ensures.parent 2 3 waiter late one_block late_waiter joined_now

pub returns-clause-child : goal.returns-clause-child
returns-clause-child c =
    c.registers_now.ensures.child worked_limits 2 3 waiter late one_block late_waiter late_waiter_is_legal joined_now

pub returns-clause-start : goal.returns-clause-start
returns-clause-start c =
    c.registers_now.ensures.start worked_limits 2 3 waiter late one_block late_waiter late_waiter_is_legal joined_now refl

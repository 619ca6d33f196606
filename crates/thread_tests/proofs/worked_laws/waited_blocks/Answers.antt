-- Task 2 has three places: it gets two values, and later that no more will come.
use Rattle.phase_accum.specs.Values.{sum_value}
use Rattle.phase_history.specs.declared.refusal.WaitRefusal.TheVariants.{NotYet}
use Rattle.thread_tests.specs.Worked.{worked_limits, opened, begun, one_block, both_got, all_left, three_places, two_written}
use Rattle.thread_tests.proofs.CallsLemmas.{block_got, block_ended, block_not_yet}
use Rattle.thread_tests.proofs.worked_laws.waited_blocks.Goals as goal

pub returns-clause-got : goal.returns-clause-got
returns-clause-got c =
    c.waits_block.ensures.got sum_value worked_limits 2 one_block both_got three_places two_written 0 2 block_got

pub returns-clause-received : goal.returns-clause-received
returns-clause-received c =
    (c.waits_block.ensures.got sum_value worked_limits 2 one_block both_got three_places two_written 0 2 block_got).received

pub returns-clause-ended : goal.returns-clause-ended
returns-clause-ended c =
    c.waits_block.ensures.ended sum_value worked_limits 2 both_got all_left three_places three_places block_ended

pub returns-clause-closed : goal.returns-clause-closed
returns-clause-closed c =
    c.waits_block.ensures.closed sum_value worked_limits 2 both_got all_left three_places three_places block_ended

pub returns-clause-got_all : goal.returns-clause-got_all
returns-clause-got_all c =
    c.waits_block.ensures.got_all sum_value worked_limits 2 both_got all_left three_places three_places block_ended

pub returns-clause-refused : goal.returns-clause-refused
returns-clause-refused c =
    c.waits_block.ensures.refused sum_value worked_limits 2 opened begun three_places three_places NotYet block_not_yet

-- Task 1 signals two phases at once; task 2, which only waits, is refused.
use Rattle.std.proofs.Common.{None, Ok}
use Rattle.phase_accum.specs.Values.{sum_value}
use Rattle.phase_history.specs.declared.refusal.SignalRefusal.TheVariants.{NoSignal}
use Rattle.thread_tests.specs.Worked.{worked_limits, opened, begun, one_block}
use Rattle.thread_tests.proofs.CallsLemmas.{block_signalled, block_refused}
use Rattle.thread_tests.proofs.worked_laws.signalled_blocks.Goals as goal

pub returns-clause-sent : goal.returns-clause-sent
returns-clause-sent c parcels held =
    c.signals_block.ensures.sent worked_limits 1 0 parcels None begun one_block (block_signalled parcels held)

pub returns-clause-received : goal.returns-clause-received
returns-clause-received c parcels held =
    c.signals_block.ensures.received sum_value worked_limits 1 parcels None begun one_block (Ok 0) (block_signalled parcels held)

pub returns-clause-refused : goal.returns-clause-refused
returns-clause-refused c parcels held =
    c.signals_block.ensures.refused worked_limits 2 parcels None opened begun NoSignal (block_refused parcels held)

-- The signal of one send, both ways.
use Rattle.std.proofs.Common.{None, Ok}
use Rattle.thread_tests.specs.Worked.{worked_limits, begun, one_signal}
use Rattle.thread_tests.proofs.CallsLemmas.{plain_signal, block_of_one}
use Rattle.thread_tests.proofs.worked_laws.blocks_of_one.Goals as goal

pub returns-clause-plain : goal.returns-clause-plain
returns-clause-plain c held seven =
    c.plain_signals.ensures.plain worked_limits 1 held None begun one_signal (Ok 0) (block_of_one held seven)

pub returns-clause-block : goal.returns-clause-block
returns-clause-block c held seven =
    c.plain_signals.ensures.block worked_limits 1 held None begun one_signal (Ok 0) (plain_signal held seven)

-- Leaving sends nothing.
use Rattle.thread_tests.proofs.parts.leaves.Goals as goal

pub returns-clause-sent : goal.returns-clause-sent
returns-clause-sent g c = (c.leaves.ensures.part c.args.reg.number c.args.reg.seen c.leave.result.seen c.leave.ensures.call).sent

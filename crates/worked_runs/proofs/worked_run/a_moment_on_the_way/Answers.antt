-- By the laws, at the moment after the peer's events.
use Rattle.std.proofs.Common.{refl, arith}
use Rattle.worked_runs.specs.Worked.{worked, after_peer}
use Rattle.worked_runs.proofs.WorkedRun.{worked-ready}
use Rattle.worked_runs.proofs.worked_run.a_moment_on_the_way.Goals as goal

pub returns-clause-stream : goal.returns-clause-stream
returns-clause-stream c =
    c.streams.ensures.begin worked after_peer 0 worked-ready
    c.a_run_from_its_opening_to_its_end.ensures.after_peer (omega arith)

pub returns-clause-taken : goal.returns-clause-taken
returns-clause-taken c =
    c.takes.ensures worked after_peer 1 0 worked-ready
    c.a_run_from_its_opening_to_its_end.ensures.after_peer (omega arith) (omega arith)

pub returns-clause-stands : goal.returns-clause-stands
returns-clause-stands c =
    c.members.ensures.stands worked after_peer 1 worked-ready
    c.a_run_from_its_opening_to_its_end.ensures.after_peer (omega arith) (0, 2, refl)

pub returns-clause-put : goal.returns-clause-put
returns-clause-put c =
    c.members.ensures.puts worked after_peer 1 1 worked-ready
    c.a_run_from_its_opening_to_its_end.ensures.after_peer (omega arith) (0, 2, refl) (omega arith)

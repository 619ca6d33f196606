-- The lines of an evaluation are those of a run with no starts of its own.
use Rattle.std.proofs.Common.{subst}
use Rattle.graph_base.specs.TaskLines.{IsGraph}
use Rattle.stream_workers.proofs.Evaluated.{evaluated}
use Rattle.stream_workers.proofs.whole.too_big.Goals as goal

pub returns-in-Ok-clause-done : goal.returns-in-Ok-clause-done
returns-in-Ok-clause-done c =
    let job = c.args.job.now in
    let is : IsGraph job.graph = subst IsGraph c.graph.ensures.graph c.tasks-tasks.ensures.graph in
    let told = c.in-Ok.ensures in
    evaluated job c.in-Ok.lines.items c.graph.ensures.least
    (λ t start there at. c.starts_are_in_time.ensures job t start is c.graph.ensures.least there at)
    told.ok told.starts told.fits

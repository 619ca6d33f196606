-- A registration is on a phaser of the graph.
use Rattle.std.proofs.Common.{◌≡◌, subst, length, refl}
use Rattle.std.specs.Prelude.{get_or}
use Rattle.graph_base.specs.Graphs.{task_at}
use Rattle.graph_base.specs.Registrations.{registrations_of, no_registration}
use Rattle.graph_base.specs.TaskLines.{IsGraph}
use Rattle.stream_tasks.proofs.Rows.{has_founder}
use Rattle.stream_tasks.proofs.opening.founders.registration_of.Goals as goal

pub returns-clause-phaser : goal.returns-clause-phaser
returns-clause-phaser c =
    let line = subst IsGraph c.graph.ensures.graph c.tasks-few.ensures.graph in
    has_founder c.args.job.now.graph c.args.t c.args.i (length c.args.job.now.graph.phasers)
    c.registration.result line
    (c.registrations.ensures.phasers c.args.job.now.graph c.args.t _
    (line.tasks c.args.t c.requires.task))
    c.requires.task c.requires.number
    (subst (λ graph. c.registration.result
    ≡ get_or (registrations_of graph (task_at graph c.args.t)) c.args.i no_registration)
    c.graph-2.ensures.graph c.registration.ensures)
    refl

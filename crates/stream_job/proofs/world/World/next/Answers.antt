-- What the machine tells, with the job's samples.
use Rattle.std.proofs.Common.{◌≡◌, subst}
use Rattle.graph_runs.specs.Moments.{Moment}
use Rattle.graph_runs.specs.Nexts.{next_of}
use Rattle.stream_job.specs.Machines.{next_by}
use Rattle.stream_job.specs.Worlds.{WorldState, IsWorldAt}
use Rattle.stream_job.proofs.world.World.next.Goals as goal

pub returns-clause-next : goal.returns-clause-next
returns-clause-next c =
    let P : WorldState → Type 0 = λ w. (m : Moment) → IsWorldAt w m
    → next_of w.job m c.args.task ≡ next_by c.next.result in
    subst P c.self.view_is (λ m at.
    c.next.ensures c.self.inside.job.now.samples m at.machine
    (c.awaits-awaits.ensures.awaits m at.machine))

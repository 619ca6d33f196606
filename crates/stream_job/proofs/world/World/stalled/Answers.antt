-- The machine tells it at each moment at which the tasks in the lists are blocked.
use Rattle.std.proofs.Common.{◌≡◌, None, subst}
use Rattle.graph_runs.specs.Moments.{Moment}
use Rattle.graph_runs.specs.Answers.{is_stalled}
use Rattle.stream_job.specs.Worlds.{WorldState, IsWorldAt}
use Rattle.stream_job.proofs.world.World.stalled.Goals as goal

pub returns-then-is_none-clause-stalled : goal.returns-then-is_none-clause-stalled
returns-then-is_none-clause-stalled c =
    let P : WorldState → Type 0 = λ w. (m : Moment) → IsWorldAt w m → w.met ≡ None
    → is_stalled w.job m ≡ c.is_stalled.result in
    subst P c.self.view_is (λ m at none. c.is_stalled.ensures m at.machine at.parked)

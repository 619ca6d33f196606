-- The machine says it of the samples that the source has still to signal.
use Rattle.std.proofs.Common.{◌≡◌, ℕ, ℤ, List, sym, subst}
use Rattle.stream_lists.specs.Jobs.{with_samples}
use Rattle.graph_runs.specs.Moments.{Moment}
use Rattle.graph_runs.specs.Nexts.{next_of}
use Rattle.stream_job.specs.Machines.{next_by}
use Rattle.stream_job.specs.Streams.{AreKept, IsStreamAt, StreamState}
use Rattle.stream_job.proofs.stream.Stream.step.Goals as goal

pub returns : goal.returns
returns c =
    let P : StreamState → Type 0 = λ w. (s : List (List ℤ)) (m : Moment) (given : ℕ → List ℤ)
    → IsStreamAt w s m given
    → next_of (with_samples s w.job) m c.args.t ≡ next_by c.next.result in
    subst P c.self.view_is (λ s m given at.
    c.next.ensures s m at.machine
    ((c.awaited-awaits.ensures s m at.each at.machine
    (subst (AreKept c.self.inside.job s m) (sym c.deref.ensures.value) at.kept)).awaits m
    at.machine))

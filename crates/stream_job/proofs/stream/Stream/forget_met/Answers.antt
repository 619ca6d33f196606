-- Nothing is asked of a value that was not met.
use Rattle.std.proofs.Common.{ℕ, ℤ, List, None, subst}
use Rattle.graph_runs.specs.Moments.{Moment}
use Rattle.stream_job.specs.Streams.{IsStreamAt, StreamState}
use Rattle.stream_job.specs.contracts.stream.Stream.{the_view}
use Rattle.stream_job.proofs.FedStands.{meets_none}
use Rattle.stream_job.proofs.stream.Stream.forget_met.Goals as goal

pub invariant_of-self : goal.invariant_of-self
invariant_of-self c =
    let i = c.self.invariant in (
      (i.0.0, i.0.1, i.0.2, meets_none (the_view c.self.inside) i.0.0 i.0.1 i.0.2 i.0.3),
      i.1,
      i.2,
      i.3,
      i.4,
      i.5,
    )

pub returns-clause-stands : goal.returns-clause-stands
returns-clause-stands c =
    let P : StreamState → Type 0 = λ w. (s : List (List ℤ)) (m : Moment) (given : ℕ → List ℤ)
    → IsStreamAt w s m given → IsStreamAt record {
      job = c.self.inside.job;
      machine = c.self.inside.machine;
      inputs = c.self.inside.inputs.items;
      met = None;
    } s m given in
    subst P c.self.view_is (λ s m given at. meets_none (the_view c.self.inside) s m given at)

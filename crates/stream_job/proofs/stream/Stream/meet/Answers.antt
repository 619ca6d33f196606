-- A value before which a task stands is a fault, and nothing else changes.
use Rattle.std.proofs.Common.{◌≡◌, ℕ, ℤ, List, None, Some, sym, subst}
use Rattle.stream_lists.specs.Jobs.{with_samples}
use Rattle.stream_lists.specs.Ranges.{Where}
use Rattle.graph_runs.specs.Moments.{Moment}
use Rattle.stream_job.specs.Rounds.{StandsSome}
use Rattle.stream_job.specs.Streams.{IsStreamAt, StreamState}
use Rattle.stream_job.specs.contracts.stream.Stream.{the_view}
use Rattle.stream_job.proofs.FedStands.{meets_at, met_none}
use Rattle.stream_job.proofs.stream.Stream.meet.Goals as goal
use Rattle.stream_job.proofs.stream.Stream.meet.Goals.{In-TooBig}

-- at each moment some task stands before it
some : (c : In-TooBig) (s : List (List ℤ)) (m : Moment) (given : ℕ → List ℤ)
    → IsStreamAt (the_view c.self.inside) s m given
    → StandsSome (with_samples s c.self.inside.job) m (c.in-TooBig.place, c.in-TooBig.phase)
some c =
    let P : StreamState → Type 0 = λ w. (s : List (List ℤ)) (m : Moment) (given : ℕ → List ℤ)
    → IsStreamAt w s m given
    → StandsSome (with_samples s w.job) m (c.in-TooBig.place, c.in-TooBig.phase) in
    subst P (sym c.self.view_is) (λ s m given at.
    c.requires.stands s m given c.in-TooBig.place c.in-TooBig.phase c.in-TooBig.is at)

pub invariant_of-self : goal.invariant_of-self
invariant_of-self c =
    let i = c.self.invariant in
    let here = (goal.at.invariant_of-self c).In-TooBig in (
      (
        i.0.0,
        i.0.1,
        i.0.2,
        meets_at (the_view c.self.inside) i.0.0 i.0.1 i.0.2
            (c.in-TooBig.place, c.in-TooBig.phase) (some here i.0.0 i.0.1 i.0.2 i.0.3) i.0.3,
      ),
      i.1,
      i.2,
      i.3,
      i.4,
      i.5,
    )

pub returns-in-TooBig-clause-stands : goal.returns-in-TooBig-clause-stands
returns-in-TooBig-clause-stands c =
    let here = (goal.at.returns-in-TooBig-clause-stands c).In-TooBig in
    let at : Where = (c.in-TooBig.place, c.in-TooBig.phase) in
    let P : StreamState → Type 0 = λ w. (s : List (List ℤ)) (m : Moment) (given : ℕ → List ℤ)
    → IsStreamAt w s m given → IsStreamAt record {
      job = c.self.inside.job;
      machine = c.self.inside.machine;
      inputs = c.self.inside.inputs.items;
      met = Some at;
    } s m given in
    subst P c.self.view_is (λ s m given stands.
    meets_at (the_view c.self.inside) s m given at (some here s m given stands) stands)

pub returns-in-TooBig-clause-stood : goal.returns-in-TooBig-clause-stood
returns-in-TooBig-clause-stood c =
    let at : Where = (c.in-TooBig.place, c.in-TooBig.phase) in
    let P : StreamState → Type 0 = λ w. w.met ≡ None → (s : List (List ℤ)) (m : Moment)
    (given : ℕ → List ℤ) → IsStreamAt record {
      job = c.self.inside.job;
      machine = c.self.inside.machine;
      inputs = c.self.inside.inputs.items;
      met = Some at;
    } s m given → IsStreamAt w s m given in
    subst P c.self.view_is (λ none s m given stands.
    met_none (the_view c.self.inside) s m given none stands) c.requires.met

-- It rests where one of the three says so.
use Rattle.std.proofs.Common.{◌≡◌, ℕ, ℤ, List, ◌||◌, sym, ap, subst, ◌∙◌}
use Rattle.stream_lists.specs.Jobs.{with_samples}
use Rattle.graph_runs.specs.Moments.{Moment}
use Rattle.stream_job.specs.InRange.{is_held_up}
use Rattle.stream_job.specs.Streams.{AreKept, IsStreamAt, StreamState, ended_at, is_full, is_hungry}
use Rattle.stream_job.proofs.stream.Stream.rests.Goals as goal
use Rattle.stream_job.proofs.stream.Stream.rests.Goals.{After-is_held_up}

pub is_held_up-requires-clause-came : goal.is_held_up-requires-clause-came
is_held_up-requires-clause-came c =
    let s = c.self.invariant.0.0 in
    let m = c.self.invariant.0.1 in
    let at = c.self.invariant.0.3 in (
      s,
      c.awaited-awaits.ensures s m at.each at.machine
          (subst (AreKept c.self.inside.job s m) (sym c.deref.ensures.value) at.kept),
    )

-- whether it is still, as the machine says
still : (c : After-is_held_up) (s : List (List ℤ)) (m : Moment) (given : ℕ → List ℤ)
    → IsStreamAt c.args.self.now s m given
    → is_held_up (with_samples s c.args.self.now.job) m c.args.t ≡ c.is_held_up.result
still c =
    let P : StreamState → Type 0 = λ w. (s : List (List ℤ)) (m : Moment) (given : ℕ → List ℤ)
    → IsStreamAt w s m given
    → is_held_up (with_samples s w.job) m c.args.t ≡ c.is_held_up.result in
    subst P c.self.view_is (λ s m given at.
    c.is_held_up.ensures s m
    (c.awaited-awaits.ensures s m at.each at.machine
    (subst (AreKept c.self.inside.job s m) (sym c.deref.ensures.value) at.kept))
    at.machine)

pub returns-then-is_held_up : goal.returns-then-is_held_up
returns-then-is_held_up c = λ s m given at.
    let job = with_samples s c.args.self.now.job in
    let ended = ended_at c.args.self.now in
    ap (λ b. b || is_hungry job ended m c.args.t || is_full job m given c.args.t)
    (still (goal.at.returns-then-is_held_up c).After-is_held_up s m given at ∙ c.if-is_held_up.true)

pub returns : goal.returns
returns c = λ s m given at.
    let job = with_samples s c.args.self.now.job in
    let ended = ended_at c.args.self.now in
    ap (λ b. b || is_hungry job ended m c.args.t || is_full job m given c.args.t)
    (still (goal.at.returns c).After-is_held_up s m given at ∙ c.if-is_held_up.false)
    ∙ ap (λ b. b || is_full job m given c.args.t)
    (c.is_hungry.ensures s m given at ∙ c.if-is_hungry.false)
    ∙ c.is_full.ensures s m given at

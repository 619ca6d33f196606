-- A task that rests is left, and one that does not moves or stands.
use Rattle.std.proofs.Common.{◌≡◌, ◌≤◌, ◌+◌, ℕ, ℤ, List, Some, length, sym, ap, subst, ◌∙◌, arith}
use Rattle.std.specs.Prelude.{Ok, true}
use Rattle.stream_lists.specs.Jobs.{with_samples}
use Rattle.graph_runs.specs.Moments.{Moment}
use Rattle.stream_job.specs.Buffers.{most_steps}
use Rattle.stream_job.specs.InRange.{stands_before}
use Rattle.stream_job.specs.Rounds.{LooksSo}
use Rattle.stream_job.specs.Stepping.{MayStep}
use Rattle.stream_job.specs.Streams.{IsStreamAt, StreamState, ended_at, rests}
use Rattle.stream_job.proofs.FedLooks.{looked_rest, looked_stands}
use Rattle.stream_job.proofs.Mosts.{line_may}
use Rattle.stream_job.proofs.stream.Stream.look.Goals.{then-not-rests+in_ok-turn+in-Before, else-not-rests}
use Rattle.stream_job.proofs.stream.Stream.look.Goals as goal

pub turn-requires-clause-most : goal.turn-requires-clause-most
turn-requires-clause-most c =
    let i = c.self-in-loop-t.invariant.0 in
    let t : ℕ = c.loop-t.t in
    let inside = c.self-in-loop-t.inside in
    let block = c.line_block-block.result in
    let P : StreamState → Type 0 = λ w. MayStep w.job w.machine t block
    × (block ≤ most_steps w.job t) in
    let Q : ℕ → Type 0 = λ b. MayStep inside.job inside.machine t b
    × (b ≤ most_steps inside.job t) in
    subst P c.self-in-loop-t.view_is (subst Q (sym c.line_block-block.ensures) (
      line_may (with_samples i.0 inside.job) inside.machine i.1 t i.3.machine,
      omega arith,
    ))

pub loop-t-preserved : goal.loop-t-preserved
loop-t-preserved c =
    let old = c.args.self.now in
    let t : ℕ = c.loop-t.t in
    let was = c.loop-t.invariant in
    elim c.if-not-rests.branch [
      | then-not-rests+in_ok-turn+in-Before w ↦
          let place = w.in-Before.place in
          let phase = w.in-Before.phase in
          let gone = w.in_ok-turn.ensures.before place phase
          (ap (λ v. Ok v) w.in-Before.is) in
          let P : StreamState → Type 0 = λ v. (s : List (List ℤ)) (m : Moment)
          (given : ℕ → List ℤ) → IsStreamAt v s m given
          → stands_before (with_samples s v.job) m t ≡ Some (place, phase) in (
            w.self-is ∙ gone.0 ∙ was.0,
            subst (LooksSo old (t + 1)) (sym (w.before-is ∙ w.first_of-before.ensures))
                (looked_stands old t c.loop-t.before (place, phase) was.1 (subst P was.0 gone.1)),
          )
      | else-not-rests w ↦
          let P : StreamState → Type 0 = λ v. (s : List (List ℤ)) (m : Moment)
          (given : ℕ → List ℤ) → IsStreamAt v s m given
          → rests (with_samples s v.job) (ended_at v) m given t ≡ true in (
            w.self-is ∙ was.0,
            subst (LooksSo old (t + 1)) (sym w.before-is)
                (looked_rest old t c.loop-t.before was.1
                (subst P was.0 (λ s m given at. c.rests.ensures s m given at ∙ w.if-not-rests.false))),
          )
    ]

pub returns-clause-tells : goal.returns-clause-tells
returns-clause-tells c =
    let old = c.args.self.now in
    let many : c.tasks-t-end.result ≡ length old.job.graph.tasks =
    c.tasks-t-end.ensures.count ∙ ap (λ g. length g.tasks) c.graph.ensures.graph
    ∙ ap (λ w. length w.job.graph.tasks) c.self.view_is in
    let end : c.loop-t.t ≡ length old.job.graph.tasks =
    (let most : c.loop-t.t ≤ c.tasks-t-end.result = c.loop-t.auto.t-end in
    let least : c.tasks-t-end.result ≤ c.loop-t.t = c.loop-t-test.false in omega arith) in
    let P : StreamState → Type 0 = λ w. LooksSo w (length w.job.graph.tasks) c.loop-t.before in
    subst P (sym c.loop-t.invariant.0)
    (subst (λ n. LooksSo old n c.loop-t.before) end c.loop-t.invariant.1)

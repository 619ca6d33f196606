-- One more.
use Rattle.std.proofs.Common.{◌≡◌, ℕ, ℤ, List, Some, arith}
use mathlib.Core.List.{IsPrefix}
use Rattle.stream_job.specs.SinkLines.{kept_by}
use Rattle.stream_job.specs.Streams.{IsStreamAt}
use Rattle.graph_runs.specs.Moments.{Moment}
use Rattle.phase_stream.specs.Sessions.{IsKeptRight, task_for}
use Rattle.phase_stream.proofs.Targets.{one_more, task_within}
use Rattle.phase_stream.proofs.session.Session.kept_is_right.Goals as goal

pub loop-number-preserved : goal.loop-number-preserved
loop-number-preserved g c =
    let stream = c.args.self.now.stream in
    let items = c.args.self.now.targets.items in
    let before = c.loop-number.invariant in
    record {
      given = λ k t lt. one_more (λ k. (t : ℕ) → task_for items k ≡ Some t → (s : List (List ℤ))
          (m : Moment) (given : ℕ → List ℤ) → IsStreamAt stream s m given
          → IsPrefix (given t) (kept_by stream.job m t)) c.loop-number.number
          (λ k less t. before.given k t less) c.is_right.ensures.given k lt t;
      right = λ k t lt. one_more (λ k. (t : ℕ) → task_for items k ≡ Some t → IsKeptRight stream t)
          c.loop-number.number (λ k less t. before.right k t less) c.is_right.ensures.right k lt t;
    }

pub returns-clause-given : goal.returns-clause-given
returns-clause-given g c = λ k t goes.
    let within = task_within c.args.self.now.targets.items k t goes in
    let far = c.loop-number-test.false in
    let end = c.len-number-end.ensures in
    c.loop-number.invariant.given k t (omega arith) goes

pub returns-clause-right : goal.returns-clause-right
returns-clause-right g c = λ k t goes.
    let within = task_within c.args.self.now.targets.items k t goes in
    let far = c.loop-number-test.false in
    let end = c.len-number-end.ensures in
    c.loop-number.invariant.right k t (omega arith) goes

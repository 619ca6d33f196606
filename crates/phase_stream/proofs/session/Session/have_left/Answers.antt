-- One more has left.
use Rattle.std.proofs.Common.{◌≡◌, ◌∙◌, ℕ, ℤ, List, Some, true, arith}
use Rattle.stream_job.specs.Gone.{has_gone}
use Rattle.stream_job.specs.Streams.{IsStreamAt}
use Rattle.graph_runs.specs.Moments.{Moment}
use Rattle.phase_stream.specs.Sessions.{IsKeptWhole, task_for}
use Rattle.phase_stream.proofs.Targets.{one_more, task_within}
use Rattle.phase_stream.proofs.session.Session.have_left.Goals as goal

pub loop-number-preserved : goal.loop-number-preserved
loop-number-preserved g c =
    let stream = c.args.self.now.stream in
    let items = c.args.self.now.targets.items in
    let before = c.loop-number.invariant in
    record {
      gone = λ k t lt. one_more (λ k. (t : ℕ) → task_for items k ≡ Some t → (s : List (List ℤ))
          (m : Moment) (given : ℕ → List ℤ) → IsStreamAt stream s m given
          → has_gone stream.job m t ≡ true) c.loop-number.number
          (λ k less t. before.gone k t less)
          (λ t goes s m given at. c.has_left.ensures.gone t goes s m given at ∙ c.if-not-has_left.false)
          k lt t;
      whole = λ k t lt. one_more (λ k. (t : ℕ) → task_for items k ≡ Some t → IsKeptWhole stream t)
          c.loop-number.number (λ k less t. before.whole k t less)
          (λ t goes. c.has_left.ensures.whole t goes c.if-not-has_left.false) k lt t;
    }

pub returns-clause-gone : goal.returns-clause-gone
returns-clause-gone g c = λ is k t goes.
    let within = task_within c.args.self.now.targets.items k t goes in
    let far = c.loop-number-test.false in
    let end = c.len-number-end.ensures in
    c.loop-number.invariant.gone k t (omega arith) goes

pub returns-clause-whole : goal.returns-clause-whole
returns-clause-whole g c = λ is k t goes.
    let within = task_within c.args.self.now.targets.items k t goes in
    let far = c.loop-number-test.false in
    let end = c.len-number-end.ensures in
    c.loop-number.invariant.whole k t (omega arith) goes

-- The loop stops at the first task that does not rest.
use Rattle.std.proofs.Common.{◌≡◌, ◌<◌, length, ap, ◌∙◌, arith, subst, true}
use Rattle.stream_lists.specs.Jobs.{with_samples}
use Rattle.stream_lists.proofs.Basics.{one_more}
use Rattle.graph_base.specs.Graphs.{Graph}
use Rattle.stream_job.specs.Streams.{StreamState, ended_at, rests}
use Rattle.stream_job.proofs.Searching.{all_in_range, not_all_in_range}
use Rattle.stream_job.proofs.stream.Stream.all_rest.Goals as goal

pub returns-then-not-rests : goal.returns-then-not-rests
returns-then-not-rests c = λ s m given at.
    let job = c.self.inside.job in
    let many : c.tasks-t-end.result ≡ length job.graph.tasks =
    c.tasks-t-end.ensures.count ∙ ap (λ (g : Graph). length g.tasks) c.graph.ensures.graph in
    let P : StreamState → Type 0 = λ w. c.tasks-t-end.result ≡ length w.job.graph.tasks in
    let count = subst P c.self.view_is many in
    let lt : c.loop-t.t < c.tasks-t-end.result = c.loop-t-test.true in
    not_all_in_range (rests (with_samples s c.args.self.now.job) (ended_at c.args.self.now) m given)
    (length c.args.self.now.job.graph.tasks) c.loop-t.t (omega arith)
    (c.rests.ensures s m given at ∙ c.if-not-rests.true)

pub loop-t-preserved : goal.loop-t-preserved
loop-t-preserved c = λ s m given at d lt.
    one_more
    (λ x. rests (with_samples s c.args.self.now.job) (ended_at c.args.self.now) m given x ≡ true)
    c.loop-t.t
    (c.loop-t.invariant s m given at) (c.rests.ensures s m given at ∙ c.if-not-rests.false) d lt

pub returns : goal.returns
returns c = λ s m given at.
    let job = c.self.inside.job in
    let many : c.tasks-t-end.result ≡ length job.graph.tasks =
    c.tasks-t-end.ensures.count ∙ ap (λ (g : Graph). length g.tasks) c.graph.ensures.graph in
    let P : StreamState → Type 0 = λ w. c.tasks-t-end.result ≡ length w.job.graph.tasks in
    let count = subst P c.self.view_is many in
    all_in_range (rests (with_samples s c.args.self.now.job) (ended_at c.args.self.now) m given)
    (length c.args.self.now.job.graph.tasks)
    (λ d lt. c.loop-t.invariant s m given at d
    (let past = c.loop-t-test.false in omega arith))

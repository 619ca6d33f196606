-- The loop stops at the first source that is hungry.
use Rattle.std.proofs.Common.{◌≡◌, ◌<◌, length, ap, ◌∙◌, arith, subst, false}
use Rattle.stream_lists.specs.Jobs.{with_samples}
use Rattle.stream_lists.proofs.Basics.{find_in_range, find_none_in_range, one_more}
use Rattle.graph_base.specs.Graphs.{Graph}
use Rattle.stream_job.specs.Streams.{StreamState, ended_at, is_hungry}
use Rattle.stream_job.proofs.stream.Stream.first_hungry.Goals as goal

pub returns-then-is_hungry : goal.returns-then-is_hungry
returns-then-is_hungry c = λ s m given at.
    let job = c.self.inside.job in
    let many : c.tasks-t-end.result ≡ length job.graph.tasks =
    c.tasks-t-end.ensures.count ∙ ap (λ (g : Graph). length g.tasks) c.graph.ensures.graph in
    let P : StreamState → Type 0 = λ w. c.tasks-t-end.result ≡ length w.job.graph.tasks in
    let count = subst P c.self.view_is many in
    let lt : c.loop-t.t < c.tasks-t-end.result = c.loop-t-test.true in
    find_in_range (is_hungry (with_samples s c.args.self.now.job) (ended_at c.args.self.now) m)
    (length c.args.self.now.job.graph.tasks) c.loop-t.t (omega arith)
    (c.loop-t.invariant s m given at) (c.is_hungry.ensures s m given at ∙ c.if-is_hungry.true)

pub loop-t-preserved : goal.loop-t-preserved
loop-t-preserved c = λ s m given at d lt.
    one_more
    (λ x. is_hungry (with_samples s c.args.self.now.job) (ended_at c.args.self.now) m x ≡ false)
    c.loop-t.t
    (c.loop-t.invariant s m given at) (c.is_hungry.ensures s m given at ∙ c.if-is_hungry.false) d lt

pub returns : goal.returns
returns c = λ s m given at.
    let job = c.self.inside.job in
    let many : c.tasks-t-end.result ≡ length job.graph.tasks =
    c.tasks-t-end.ensures.count ∙ ap (λ (g : Graph). length g.tasks) c.graph.ensures.graph in
    let P : StreamState → Type 0 = λ w. c.tasks-t-end.result ≡ length w.job.graph.tasks in
    let count = subst P c.self.view_is many in
    find_none_in_range (is_hungry (with_samples s c.args.self.now.job) (ended_at c.args.self.now) m)
    (length c.args.self.now.job.graph.tasks)
    (λ d lt. c.loop-t.invariant s m given at d
    (let past = c.loop-t-test.false in omega arith))

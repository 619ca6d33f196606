-- The loop stops at the first task that is live.
use Rattle.std.proofs.Common.{◌≡◌, ◌<◌, length, ap, ◌∙◌, arith, false}
use Rattle.stream_lists.proofs.Basics.{one_more}
use Rattle.graph_runs.specs.Nexts.{is_live}
use Rattle.stream_job.proofs.Searching.{any_in_range, none_in_range}
use Rattle.stream_job.proofs.machine.Machine.has_live.Goals as goal

pub returns-then-is_live : goal.returns-then-is_live
returns-then-is_live c = λ s m at.
    let count : c.tasks-t-end.result ≡ length c.args.job.now.graph.tasks =
    c.tasks-t-end.ensures.count ∙ ap (λ g. length g.tasks) c.graph.ensures.graph in
    let lt : c.loop-t.t < c.tasks-t-end.result = c.loop-t-test.true in
    any_in_range (is_live c.args.job.now m) (length c.args.job.now.graph.tasks) c.loop-t.t
    (omega arith) (c.is_live.ensures s m (c.state.ensures s m at).stands ∙ c.if-is_live.true)

pub loop-t-preserved : goal.loop-t-preserved
loop-t-preserved c = λ s m at d lt.
    one_more (λ x. is_live c.args.job.now m x ≡ false) c.loop-t.t (c.loop-t.invariant s m at)
    (c.is_live.ensures s m (c.state.ensures s m at).stands ∙ c.if-is_live.false) d lt

pub returns : goal.returns
returns c = λ s m at.
    let count : c.tasks-t-end.result ≡ length c.args.job.now.graph.tasks =
    c.tasks-t-end.ensures.count ∙ ap (λ g. length g.tasks) c.graph.ensures.graph in
    none_in_range (is_live c.args.job.now m) (length c.args.job.now.graph.tasks)
    (λ d lt. c.loop-t.invariant s m at d (let past = c.loop-t-test.false in omega arith))

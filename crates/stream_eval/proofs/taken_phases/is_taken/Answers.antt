use Rattle.std.proofs.Common.{arith, ◌<◌, length, ap, ◌∙◌, sym}
use Rattle.graph_base.specs.Graphs.{Graph}
use Rattle.stream_lists.specs.Ranges.{task_takes}
use Rattle.stream_lists.proofs.Firsts.{any-pass}
use Rattle.stream_lists.specs.Spans.{schedule_of}
use Rattle.stream_eval.proofs.taken_phases.is_taken.Goals as goal

-- this task does not take it
pub loop-t-preserved : goal.loop-t-preserved
loop-t-preserved c =
    let count = ap (λ (graph : Graph). length graph.tasks) c.graph.ensures.graph in
    let within : c.loop-t.t < length c.args.job.now.graph.tasks = omega
    (arith, count, c.loop-t-test.true, c.tasks-t-end.ensures.count) in
    c.loop-t.invariant ∙ any-pass
    (task_takes c.args.job.now (schedule_of c.args.job.now) c.args.p c.args.n) _ c.loop-t.t within
    (sym c.takes.ensures ∙ c.if-takes.false)

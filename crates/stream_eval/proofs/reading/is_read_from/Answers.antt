use Rattle.std.proofs.Common.{arith, ◌<◌, length, ap, ◌∙◌, sym}
use Rattle.graph_base.specs.Graphs.{Graph}
use Rattle.stream_eval.specs.Composing.{reads_from}
use Rattle.stream_lists.proofs.Firsts.{any-pass, any-here}
use Rattle.stream_eval.proofs.reading.is_read_from.Goals as goal

-- nor does this one
pub loop-t-preserved : goal.loop-t-preserved
loop-t-preserved c =
    let count = ap (λ (graph : Graph). length graph.tasks) c.graph.ensures.graph in
    let within : c.loop-t.t < length c.args.job.now.graph.tasks = omega
    (arith, count, c.loop-t-test.true, c.tasks-t-end.ensures.count) in
    c.loop-t.invariant ∙ any-pass (reads_from c.args.job.now c.args.p c.args.q) _ c.loop-t.t
    within (sym c.reads_from.ensures ∙ c.if-reads_from.false)

-- this task reads it
pub returns-then-reads_from : goal.returns-then-reads_from
returns-then-reads_from c =
    let count = ap (λ (graph : Graph). length graph.tasks) c.graph.ensures.graph in
    let within : c.loop-t.t < length c.args.job.now.graph.tasks = omega
    (arith, count, c.loop-t-test.true, c.tasks-t-end.ensures.count) in
    sym (c.loop-t.invariant ∙ any-here (reads_from c.args.job.now c.args.p c.args.q) _ c.loop-t.t
    within (sym c.reads_from.ensures ∙ c.if-reads_from.true))

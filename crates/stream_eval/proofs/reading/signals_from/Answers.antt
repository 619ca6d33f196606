use Rattle.std.proofs.Common.{arith, ◌<◌, length, ap, ◌∙◌, sym}
use Rattle.graph_base.specs.Graphs.{Graph}
use Rattle.stream_eval.specs.Composing.{signals_on}
use Rattle.stream_lists.proofs.Firsts.{any-pass, any-here}
use Rattle.stream_eval.proofs.reading.signals_from.Goals as goal

-- nor this one
pub loop-below-preserved : goal.loop-below-preserved
loop-below-preserved c =
    let count = ap (λ (graph : Graph). length graph.phasers) c.graph.ensures.graph in
    let within : c.loop-below.below < length c.args.job.now.graph.phasers = omega
    (arith, count, c.loop-below-test.true, c.phasers-below-end.ensures.count) in
    c.loop-below.invariant ∙ any-pass (signals_on c.args.job.now c.args.t) _ c.loop-below.below
    within (sym c.signals_on.ensures ∙ c.if-signals_on.false)

-- this one is signalled
pub returns-then-signals_on : goal.returns-then-signals_on
returns-then-signals_on c =
    let count = ap (λ (graph : Graph). length graph.phasers) c.graph.ensures.graph in
    let within : c.loop-below.below < length c.args.job.now.graph.phasers = omega
    (arith, count, c.loop-below-test.true, c.phasers-below-end.ensures.count) in
    sym (c.loop-below.invariant ∙ any-here (signals_on c.args.job.now c.args.t) _ c.loop-below.below
    within (sym c.signals_on.ensures ∙ c.if-signals_on.true))

use Rattle.std.proofs.Common.{arith, ◌<◌, length, sym, ◌∙◌}
use Rattle.stream_lists.specs.Meetings.{meets_on}
use Rattle.stream_lists.proofs.Firsts.{any-pass, any-here}
use Rattle.stream_lists.proofs.meetings.meets_some.Goals as goal

-- nor on this one
pub loop-p-preserved : goal.loop-p-preserved
loop-p-preserved c =
    let within : c.loop-p.p < length c.args.graph.now.phasers =
    omega (arith, c.loop-p-test.true, c.phasers-p-end.ensures.count) in
    c.loop-p.invariant
    ∙ any-pass (meets_on c.args.graph.now c.args.spans.now c.args.t) _ c.loop-p.p within
    (sym c.first_on.ensures.meets ∙ (sym c.is_some.ensures ∙ c.if-is_some.false))

-- it meets one on this phaser
pub returns-then-is_some : goal.returns-then-is_some
returns-then-is_some c =
    let within : c.loop-p.p < length c.args.graph.now.phasers =
    omega (arith, c.loop-p-test.true, c.phasers-p-end.ensures.count) in
    sym (c.loop-p.invariant
    ∙ any-here (meets_on c.args.graph.now c.args.spans.now c.args.t) _ c.loop-p.p within
    (sym c.first_on.ensures.meets ∙ (sym c.is_some.ensures ∙ c.if-is_some.true)))

use Rattle.std.proofs.Common.{arith, Some, ◌<◌, length, ap, sym, ◌∙◌}
use Rattle.std.specs.Option.{option_map}
use Rattle.graph_base.specs.Graphs.{task_at}
use Rattle.stream_lists.specs.Meetings.{meets_above}
use Rattle.stream_lists.proofs.Firsts.{find-pass, find-here}
use Rattle.stream_lists.proofs.meetings.first_meeting.Goals as goal

-- nor does this one
pub loop-t-preserved : goal.loop-t-preserved
loop-t-preserved c =
    let within : c.loop-t.t < length c.args.graph.now.tasks =
    omega (arith, c.loop-t-test.true, c.tasks-t-end.ensures.count) in
    c.loop-t.invariant
    ∙ find-pass (meets_above c.args.graph.now c.args.spans.now) _ c.loop-t.t within
    (sym c.meets_some.ensures ∙ c.if-meets_some.false)

-- this task is the first that does
pub returns-then-meets_some : goal.returns-then-meets_some
returns-then-meets_some c =
    let within : c.loop-t.t < length c.args.graph.now.tasks =
    omega (arith, c.loop-t-test.true, c.tasks-t-end.ensures.count) in
    ap (λ task. Some task.line) c.task.ensures.task
    ∙ sym (ap (option_map (λ t. (task_at c.args.graph.now t).line))
    (c.loop-t.invariant
    ∙ find-here (meets_above c.args.graph.now c.args.spans.now) _ c.loop-t.t within
    (sym c.meets_some.ensures ∙ c.if-meets_some.true)))

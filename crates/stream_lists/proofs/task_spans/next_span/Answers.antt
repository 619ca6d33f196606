use Rattle.std.proofs.Common.{◌≡◌, true, rules, subst, sym}
use Rattle.stream_lists.specs.JobFields.{IsShort}
use Rattle.stream_lists.specs.Jobs.{counted}
use Rattle.stream_lists.specs.Spans.{span_of}
use Rattle.stream_lists.specs.declared.span.Span.{Span}
use Rattle.stream_lists.proofs.Bounds.{stage_lengths, stage_span}
use Rattle.stream_lists.proofs.task_spans.next_span.Goals as goal

-- the lengths at this stage are short
pub steps_for-most-requires-clause-short : goal.steps_for-most-requires-clause-short
steps_for-most-requires-clause-short c = stage_lengths _ _ _ c.requires.stage

-- and so is the span over them
pub returns-clause-short : goal.returns-clause-short
returns-clause-short c =
    let span : Span = record { live = true; offset = c.in-Some.offset; steps = c.cut.result } in
    let is : span ≡ span_of (counted c.args.graph.now c.args.counts.now) c.args.lengths.now
    c.args.above.now c.args.t = search rules in
    subst (λ (s : Span). IsShort s) (sym is)
    (stage_span _ _ _ _ _ c.requires.stage c.requires.task c.requires.above)

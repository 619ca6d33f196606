use Rattle.std.proofs.Common.{arith, ◌≡◌, ◌<◌, length, get_or, ap, ◌∙◌, subst}
use Rattle.std.proofs.lemmas.List.{get_or_default}
use Rattle.stream_lists.specs.Spans.{spans_of, nowhere}
use Rattle.stream_lists.proofs.job.Job.span.Goals as goal

-- it is the span of the number
pub returns-clause-span : goal.returns-clause-span
returns-clause-span c =
    let lt = rw (← c.self.view_is) at c.requires in
    let within : c.args.t < length c.self.inside.spans.items =
    omega (arith, c.self.invariant.span_each) in
    subst (λ job. c.index.result.now ≡ get_or (spans_of job) c.args.t nowhere) c.self.view_is
    (c.index.ensures ∙ (get_or_default c.self.inside.spans.items c.args.t _ nowhere within
    ∙ ap (λ s. get_or s c.args.t nowhere) c.self.invariant.spans_are))

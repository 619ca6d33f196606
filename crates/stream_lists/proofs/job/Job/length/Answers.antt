use Rattle.std.proofs.Common.{arith, ◌≡◌, ◌<◌, length, get_or, ap, ◌∙◌, subst}
use Rattle.std.proofs.lemmas.List.{get_or_default}
use Rattle.stream_lists.specs.Spans.{lengths_of}
use Rattle.stream_lists.proofs.job.Job.length.Goals as goal

-- it is the length of the number
pub returns-clause-length : goal.returns-clause-length
returns-clause-length c =
    let lt = rw (← c.self.view_is) at c.requires in
    let within : c.args.p < length c.self.inside.lengths.items =
    omega (arith, c.self.invariant.length_each) in
    subst (λ job. c.index.result.now ≡ get_or (lengths_of job) c.args.p 0) c.self.view_is
    (c.index.ensures ∙ (get_or_default c.self.inside.lengths.items c.args.p _ 0 within
    ∙ ap (λ s. get_or s c.args.p 0) c.self.invariant.lengths_are))

-- The plan of the task is at its place.
use Rattle.std.proofs.Common.{[], length, get_or, refl, ap, ◌∙◌, arith}
use Rattle.std.proofs.lemmas.Option.{slice_get_read}
use Rattle.stream_job.proofs.plan.Plan.samples.Goals as goal

pub returns-clause-value : goal.returns-clause-value
returns-clause-value c =
    let many = c.requires.plan.many in
    let there = c.requires.task in
    c.samples.ensures.value
    ∙ ap (λ s. get_or c.args.job.now.samples s [])
    (c.requires.plan.each c.args.t c.index.result.now
    (slice_get_read c.args.self.now.tasks.items (length c.args.self.now.tasks.items) c.args.t
    c.index.result.now refl (omega arith) c.index.ensures)).source

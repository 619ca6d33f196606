-- The plan of the task is at its place.
use Rattle.std.proofs.Common.{length, refl, ◌∙◌, arith}
use Rattle.std.proofs.lemmas.Option.{slice_get_read}
use Rattle.stream_job.proofs.plan.Plan.children.Goals as goal

pub returns : goal.returns
returns c =
    let many = c.requires.plan.many in
    let there = c.requires.task in
    c.as_slice.ensures.value
    ∙ (c.requires.plan.each c.args.t c.index.result.now
    (slice_get_read c.args.self.now.tasks.items (length c.args.self.now.tasks.items) c.args.t
    c.index.result.now refl (omega arith) c.index.ensures)).children

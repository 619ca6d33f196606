-- The task that was found.
use Rattle.std.proofs.Common.{◌≡◌, IfSome, length, ap, subst, ◌∙◌, arith}
use Rattle.graph_base.specs.Graphs.{Graph}
use Rattle.stream_tasks.specs.Joinings.{IsPlaced}
use Rattle.stream_tasks.proofs.ending.given_numbers.is_of_task.Goals as goal

pub returns-then-has_number : goal.returns-then-has_number
returns-then-has_number c = λ e. record {
  task = c.loop-t.t;
  there = (let count : c.tasks-t-end.result ≡ length c.args.job.now.graph.tasks =
      c.tasks-t-end.ensures.count ∙ ap (λ (g : Graph). length g.tasks) c.graph.ensures.graph in
      let lt = c.loop-t-test.true in omega arith);
  part = c.in-Some.part.now;
  came = subst (λ o. IfSome o (λ part. IsPlaced c.args.parts.now c.loop-t.t part.now)) c.in-Some.is
      c.part_at.ensures.some;
  has = c.has_number.ensures c.if-has_number.true;
}

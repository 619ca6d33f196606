-- A seed has received nothing.
use Rattle.stream_tasks.proofs.task.Task.found.Goals as goal

pub register_all-requires-clause-seed : goal.register_all-requires-clause-seed
register_all-requires-clause-seed g c = record {
  seed = c.in-Ok.ensures.seed;
  room = c.in-Ok.ensures.room;
  received = c.in-Ok.ensures.received c.args.job.now g.J.Run.spots;
  many = c.in-Ok.ensures.many;
}

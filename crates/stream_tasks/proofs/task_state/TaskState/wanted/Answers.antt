-- The output is one of its registrations.
use Rattle.std.proofs.Common.{◌<◌, length, arith, rules}
use Rattle.graph_base.specs.Graphs.{task_at}
use Rattle.graph_base.specs.Registrations.{signalled_by}
use Rattle.stream_tasks.proofs.Turning.{output_on}
use Rattle.stream_tasks.proofs.task_state.TaskState.wanted.Goals as goal

pub index-requires : goal.index-requires
index-requires g c =
    let s = c.args.self.now in
    let job = c.args.job.now in
    let some : 0 < length (signalled_by (task_at job.graph s.number)) = search rules in
    let on = output_on job s 0 c.output_of-k.result.0 c.output_of-k.result.1 c.requires some
    c.output_of-k.ensures.registration c.output_of-k.ensures.phaser in
    omega (arith, on.0, c.requires.holds, s.holds.ok.0)

-- The output and the inputs are among its registrations.
use Rattle.std.proofs.Common.{◌<◌, length, ap, arith, rules}
use Rattle.graph_base.specs.Graphs.{task_at}
use Rattle.graph_base.specs.Registrations.{signalled_by}
use Rattle.graph_runs.proofs.Standing.{many}
use Rattle.stream_tasks.proofs.Turning.{output_on}
use Rattle.stream_tasks.proofs.task_state.TaskState.ready_share.Goals as goal

pub index-requires : goal.index-requires
index-requires g c =
    let s = c.args.self.now in
    let job = c.args.job.now in
    let some : 0 < length (signalled_by (task_at job.graph s.number)) = search rules in
    let on = output_on job s 0 c.output_of-k.result.0 c.output_of-k.result.1 c.requires.whole some
    c.output_of-k.ensures.registration c.output_of-k.ensures.phaser in
    omega (arith, on.0, c.requires.whole.holds, s.holds.ok.0)

pub least_ready-requires : goal.least_ready-requires
least_ready-requires g c =
    let s = c.args.self.now in
    let job = c.args.job.now in
    let whole = c.requires.whole in
    omega (
      arith,
      ap length c.deref.ensures.value,
      whole.holds,
      many job s.number whole.graph whole.there,
      c.inputs_of-inputs.ensures.count,
    )

-- The output is one of its registrations.
use Rattle.std.proofs.Common.{◌<◌, length, ap, arith}
use Rattle.graph_base.specs.Graphs.{task_at}
use Rattle.graph_base.specs.Registrations.{signalled_by}
use Rattle.stream_tasks.proofs.Dealing.{split_ends}
use Rattle.stream_tasks.proofs.Turning.{output_on}
use Rattle.stream_tasks.proofs.task_state.TaskState.dealt_steps.Goals as goal

pub index-requires : goal.index-requires
index-requires c =
    let s = c.args.self.now in
    let job = c.args.job.now in
    let whole = c.requires.whole in
    let j = c.output_in_turn.result in
    let ends = split_ends job s.number whole.graph whole.there c.requires.kind in
    let less : j < length (signalled_by (task_at job.graph s.number)) =
    omega (arith, c.output_in_turn.ensures.within, ap length ends.0) in
    let on = output_on job s j c.output_of-k.result.0 c.output_of-k.result.1 whole less
    c.output_of-k.ensures.registration c.output_of-k.ensures.phaser in
    omega (arith, on.0, whole.holds, s.holds.ok.0)

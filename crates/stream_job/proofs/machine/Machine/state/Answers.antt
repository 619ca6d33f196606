-- The task's own place in the list of states.
use Rattle.std.proofs.Common.{refl, length, arith, ◌<◌, ◌≡◌}
use Rattle.std.proofs.lemmas.Option.{slice_get_read}
use Rattle.stream_job.proofs.machine.Machine.state.Goals as goal

pub returns : goal.returns
returns c = λ s m stands.
    let many : length c.args.self.now.tasks.items ≡ length c.args.job.now.graph.tasks =
    stands.tasks_many in
    let task : c.args.t < length c.args.job.now.graph.tasks = c.requires.task in
    stands.tasks c.args.t c.index.result.now
    (slice_get_read c.args.self.now.tasks.items (length c.args.self.now.tasks.items) c.args.t
    c.index.result.now refl (omega arith) c.index.ensures)

-- The core of the phaser is set, and the others stay.
use Rattle.std.proofs.Common.{refl, ◌<◌, ◌≡◌, ◌∷◌, length, arith}
use Rattle.std.proofs.lemmas.Option.{slice_get_read}
use Rattle.phase_history.specs.declared.event.Event.TheVariants.{Dropped}
use Rattle.graph_base.specs.Graphs.{phaser_at}
use Rattle.graph_runs.specs.Moments.{limits_at}
use Rattle.stream_job.proofs.Setting.{set_core, on_ok}
use Rattle.stream_job.proofs.machine.Machine.drop_on.Goals as goal

pub returns-clause-cores : goal.returns-clause-cores
returns-clause-cores c =
    on_ok c.drop_task.result (λ after h at.
    set_core c.args.job.now h c.args.self.now.cores.items c.args.p c.drop_task.new.self
    (Dropped c.args.number ∷ h c.args.p) at c.requires.phaser
    (after (phaser_at c.args.job.now.graph c.args.p).op (limits_at c.args.job.now c.args.p)
    (h c.args.p)
    (let many : length c.args.self.now.cores.items ≡ length c.args.job.now.graph.phasers =
    at.many in
    let there : c.args.p < length c.args.job.now.graph.phasers = c.requires.phaser in
    at.each c.args.p c.index_mut.result.now
    (slice_get_read c.args.self.now.cores.items (length c.args.self.now.cores.items) c.args.p
    c.index_mut.result.now refl (omega arith) c.index_mut.ensures.value))))
    c.drop_task.ensures.after

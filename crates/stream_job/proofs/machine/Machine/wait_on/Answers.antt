-- The core of the phaser is set, and the others stay.
use Rattle.std.proofs.Common.{refl, ◌<◌, ◌≡◌, length, arith}
use Rattle.std.proofs.lemmas.Option.{slice_get_read}
use Rattle.phase_history.specs.Replies.{after_wait}
use Rattle.graph_base.specs.Graphs.{phaser_at}
use Rattle.graph_runs.specs.Moments.{limits_at}
use Rattle.stream_job.proofs.Setting.{set_core}
use Rattle.stream_job.proofs.machine.Machine.wait_on.Goals as goal

pub returns-clause-cores : goal.returns-clause-cores
returns-clause-cores c = λ h at.
    let many : length c.args.self.now.cores.items ≡ length c.args.job.now.graph.phasers =
    at.many in
    let there : c.args.p < length c.args.job.now.graph.phasers = c.requires.phaser in
    set_core c.args.job.now h c.args.self.now.cores.items c.args.p c.wait.new.self
    (after_wait c.wait.result c.args.number (h c.args.p)) at c.requires.phaser
    (c.wait.ensures.after (phaser_at c.args.job.now.graph c.args.p).op
    (limits_at c.args.job.now c.args.p) (h c.args.p)
    (at.each c.args.p c.index_mut.result.now
    (slice_get_read c.args.self.now.cores.items (length c.args.self.now.cores.items) c.args.p
    c.index_mut.result.now refl (omega arith) c.index_mut.ensures.value)))

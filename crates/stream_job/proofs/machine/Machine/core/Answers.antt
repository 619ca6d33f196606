-- The place of the phaser in the list of cores.
use Rattle.std.proofs.Common.{refl, length, arith, ◌<◌, ◌≡◌}
use Rattle.std.proofs.lemmas.Option.{slice_get_read}
use Rattle.stream_job.proofs.machine.Machine.core.Goals as goal

pub returns : goal.returns
returns c = λ s m stands.
    let many : length c.args.self.now.cores.items ≡ length c.args.job.now.graph.phasers =
    stands.cores.many in
    let there : c.args.p < length c.args.job.now.graph.phasers = c.requires.phaser in
    stands.cores.each c.args.p c.index.result.now
    (slice_get_read c.args.self.now.cores.items (length c.args.self.now.cores.items) c.args.p
    c.index.result.now refl (omega arith) c.index.ensures)

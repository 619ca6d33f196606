-- The core of the phaser is set, and the others stay.
use Rattle.std.proofs.Common.{◌≡◌, length, drop, subst, ◌∙◌, arith}
use Rattle.std.proofs.lemmas.List.{length-take-le, take_at}
use Rattle.stream_job.proofs.Setting.{set_core, lent_core}
use Rattle.phase_history.specs.Replies.{after_wait_block, wait_block_reply}
use Rattle.graph_base.specs.Graphs.{phaser_at}
use Rattle.graph_runs.specs.Moments.{limits_at}
use Rattle.stream_job.proofs.machine.Machine.wait_block_on.Goals as goal

pub returns-clause-reply : goal.returns-clause-reply
returns-clause-reply c = λ h at.
    subst (λ n. wait_block_reply (limits_at c.args.job.now c.args.p) (h c.args.p) c.args.number n
    ≡ c.wait_block.result) (length-take-le c.args.many c.args.places.now c.requires.room)
    (c.wait_block.ensures.reply (phaser_at c.args.job.now.graph c.args.p).op
    (limits_at c.args.job.now c.args.p) (h c.args.p)
    (lent_core c.args.job.now h c.args.self.now.cores.items c.args.p
    c.index_mut.result.now at c.requires.phaser c.index_mut.ensures.value))

pub returns-clause-places : goal.returns-clause-places
returns-clause-places c = λ h at.
    let cut = length-take-le c.args.many c.args.places.now c.requires.room in
    let long : length c.wait_block.new.out ≡ c.args.many = omega arith in
    take_at c.wait_block.new.out (drop c.args.many c.args.places.now) c.args.many long
    ∙ c.wait_block.ensures.out (phaser_at c.args.job.now.graph c.args.p).op
    (limits_at c.args.job.now c.args.p) (h c.args.p)
    (lent_core c.args.job.now h c.args.self.now.cores.items c.args.p
    c.index_mut.result.now at c.requires.phaser c.index_mut.ensures.value)

pub returns-clause-cores : goal.returns-clause-cores
returns-clause-cores c = λ h at.
    set_core c.args.job.now h c.args.self.now.cores.items c.args.p c.wait_block.new.self
    (after_wait_block c.wait_block.result c.args.number (h c.args.p)) at
    c.requires.phaser
    (c.wait_block.ensures.after (phaser_at c.args.job.now.graph c.args.p).op
    (limits_at c.args.job.now c.args.p) (h c.args.p)
    (lent_core c.args.job.now h c.args.self.now.cores.items c.args.p
    c.index_mut.result.now at c.requires.phaser c.index_mut.ensures.value))

-- The core of the phaser is set, and the others stay.
use Rattle.std.proofs.Common.{◌∷◌, ap, ◌∙◌, arith}
use Rattle.std.specs.Vec.{with_item}
use Rattle.phase_history.specs.declared.event.Event.TheVariants.{RegisteredNow}
use Rattle.graph_base.specs.Graphs.{phaser_at}
use Rattle.graph_runs.specs.Moments.{limits_at}
use Rattle.stream_job.proofs.Setting.{set_core, lent_core, if_ok, on_ok, on_err, if_err, same_item}
use Rattle.stream_job.proofs.machine.Machine.register_now_on.Goals as goal

pub returns-clause-refused : goal.returns-clause-refused
returns-clause-refused c =
    if_err c.register_now.result (λ e told other h at.
    told other (phaser_at c.args.job.now.graph c.args.p).op (limits_at c.args.job.now c.args.p)
    (h c.args.p) (lent_core c.args.job.now h c.args.self.now.cores.items c.args.p
    c.index_mut.result.now at c.requires.phaser c.index_mut.ensures.value))
    c.register_now.ensures.refused

pub returns-clause-ok : goal.returns-clause-ok
returns-clause-ok c =
    if_ok c.register_now.result (λ phase told h at.
    told (phaser_at c.args.job.now.graph c.args.p).op (limits_at c.args.job.now c.args.p)
    (h c.args.p) (lent_core c.args.job.now h c.args.self.now.cores.items c.args.p
    c.index_mut.result.now at c.requires.phaser c.index_mut.ensures.value))
    c.register_now.ensures.ok

pub returns-clause-cores : goal.returns-clause-cores
returns-clause-cores c =
    on_ok c.register_now.result (λ told h at.
    set_core c.args.job.now h c.args.self.now.cores.items c.args.p c.register_now.new.self
    (RegisteredNow c.args.parent c.args.child ∷ h c.args.p) at
    c.requires.phaser
    (told (phaser_at c.args.job.now.graph c.args.p).op (limits_at c.args.job.now c.args.p)
    (h c.args.p) (lent_core c.args.job.now h c.args.self.now.cores.items c.args.p
    c.index_mut.result.now at c.requires.phaser c.index_mut.ensures.value)))
    c.register_now.ensures.after

-- a core that took no child is as it was
pub returns-clause-err : goal.returns-clause-err
returns-clause-err c =
    on_err c.register_now.result (λ same.
    ap (with_item c.args.self.now.cores c.args.p) same
    ∙ same_item c.args.self.now.cores c.args.p c.index_mut.result.now
    (omega (arith, c.requires.cores.1.many, c.requires.phaser)) c.index_mut.ensures.value)
    c.register_now.ensures.err

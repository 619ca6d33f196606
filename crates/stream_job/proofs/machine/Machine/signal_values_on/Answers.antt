-- The core of the phaser is set, and the others stay.
use Rattle.std.proofs.Common.{◌≡◌, map, ap, ◌∙◌, subst}
use Rattle.phase_history.specs.Replies.{after_signal}
use Rattle.graph_base.specs.Graphs.{phaser_at}
use Rattle.graph_runs.specs.Moments.{one, limits_at}
use Rattle.phase_any.specs.Phasers.{PhaserStandsFor}
use Rattle.stream_job.proofs.Setting.{set_core, lent_core}
use Rattle.stream_job.proofs.machine.Machine.signal_values_on.Goals as goal

pub returns-clause-cores : goal.returns-clause-cores
returns-clause-cores c = λ h at.
    let job = c.args.job.now in
    let p = c.args.p in
    let lists = map one c.args.values.now in
    let single : c.phaser.result.now.single ≡ (phaser_at job.graph p).single =
    ap (λ line. line.single) (c.phaser.ensures.phaser
    ∙ ap (λ g. phaser_at g p) c.graph.ensures.graph) in
    set_core job h c.args.self.now.cores.items p c.signal_values.new.self
    (after_signal c.signal_values.result c.args.number (map one c.args.values.now)
    (phaser_at job.graph p).single (h p)) at c.requires.phaser
    (subst (λ s. PhaserStandsFor c.signal_values.new.self (phaser_at job.graph p).op
    (limits_at job p) (after_signal c.signal_values.result c.args.number
    (map one c.args.values.now) s (h p))) single
    (c.signal_values.ensures.after (phaser_at job.graph p).op (limits_at job p) (h p)
    (lent_core job h c.args.self.now.cores.items p c.index_mut.result.now at
    c.requires.phaser c.index_mut.ensures.value)))

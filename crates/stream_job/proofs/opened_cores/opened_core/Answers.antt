-- The founder is registered until it leaves, last of all.
use Rattle.std.proofs.Common.{◌≡◌, ℕ, length, sym, ap, subst, ◌∙◌, arith}
use Rattle.graph_base.specs.Graphs.{Graph, phaser_at}
use Rattle.graph_base.specs.TaskLines.{IsGraph}
use Rattle.stream_lists.specs.Jobs.{Job}
use Rattle.graph_runs.specs.Moments.{limits_at}
use Rattle.phase_any.specs.declared.any_phaser.AnyPhaser.{AnyPhaser}
use Rattle.phase_any.specs.Phasers.{PhaserStandsFor}
use Rattle.graph_runs.specs.Beginnings.{roots_joined}
use Rattle.stream_job.proofs.OpeningPhasers.{founder_goes}
use Rattle.stream_job.proofs.opened_cores.opened_core.Goals as goal

-- a phaser with the tasks before this one
abbrev With : Job → ℕ → AnyPhaser → ℕ → Type 0
With job p core t =
    PhaserStandsFor core (phaser_at job.graph p).op (limits_at job p) (roots_joined job p t)

pub unreachable-requires-in_default-drop_task : goal.unreachable-requires-in_default-drop_task
unreachable-requires-in_default-drop_task c =
    let job = c.args.job.now in
    let count : c.tasks-t-end.result ≡ length job.graph.tasks =
    c.tasks-t-end.ensures.count ∙ ap (λ (g : Graph). length g.tasks) c.graph-2.ensures.graph in
    let last : c.loop-t.t ≡ length job.graph.tasks =
    omega (arith, count, c.loop-t.auto.t-end, c.loop-t-test.false) in
    let all : With job c.args.p c.loop-t.core (length job.graph.tasks) =
    subst (With job c.args.p c.loop-t.core) last c.loop-t.invariant in
    let some = c.in_default-drop_task.ensures.refused _ _ _ all in
    let none = founder_goes job c.args.p
    (subst IsGraph c.graph-2.ensures.graph c.tasks-t-end.ensures.graph) c.requires in
    let both = sym none ∙ some in
    cc

pub returns : goal.returns
returns c =
    let job = c.args.job.now in
    let count : c.tasks-t-end.result ≡ length job.graph.tasks =
    c.tasks-t-end.ensures.count ∙ ap (λ (g : Graph). length g.tasks) c.graph-2.ensures.graph in
    let last : c.loop-t.t ≡ length job.graph.tasks =
    omega (arith, count, c.loop-t.auto.t-end, c.loop-t-test.false) in
    let all : With job c.args.p c.loop-t.core (length job.graph.tasks) =
    subst (With job c.args.p c.loop-t.core) last c.loop-t.invariant in
    c.in-Ok-drop_task.ensures.after _ _ _ all

-- The phaser that was made stands behind those before it.
use Rattle.std.proofs.Common.{◌≡◌, ℕ, [], ◌∷◌, ◌++◌, length, sym, ap, subst, ◌∙◌, arith}
use Rattle.std.specs.Prelude.{slice_get}
use Rattle.std.proofs.lemmas.List.{length-append}
use Rattle.graph_base.specs.Graphs.{phaser_at}
use Rattle.stream_lists.specs.Jobs.{Job}
use Rattle.stream_lists.proofs.Basics.{each-push}
use Rattle.graph_runs.specs.Moments.{limits_at}
use Rattle.phase_any.specs.declared.any_phaser.AnyPhaser.{AnyPhaser}
use Rattle.phase_any.specs.Phasers.{PhaserStandsFor}
use Rattle.graph_runs.specs.Beginnings.{opening}
use Rattle.stream_job.proofs.opened_cores.opened_cores.Goals as goal

-- a phaser stands at the opening
abbrev Opened : Job → ℕ → AnyPhaser → Type 0
Opened job p core =
    PhaserStandsFor core (phaser_at job.graph p).op (limits_at job p) ((opening job).history p)

pub loop-p-preserved : goal.loop-p-preserved
loop-p-preserved c =
    let job = c.args.job.now in
    let cores = c.loop-p.cores.items in
    let one = c.in_ok-opened_core.field-0 in
    let items : c.push.new.self.items ≡ cores ++ one ∷ [] = c.in_ok-push.ensures.items in
    let many : length cores ≡ c.loop-p.p = c.loop-p.invariant.0 in
    let more = length-append cores (one ∷ []) in
    let long : length c.push.new.self.items ≡ length (cores ++ one ∷ []) = ap length items in
    let here : Opened job (length cores) one =
    subst (λ p. Opened job p one) (sym many) c.in_ok-opened_core.ensures in
    let all = each-push (Opened job) cores one c.loop-p.invariant.1 here in
    (omega arith, λ p core e. all p core (ap (λ l. slice_get l p) (sym items) ∙ e))

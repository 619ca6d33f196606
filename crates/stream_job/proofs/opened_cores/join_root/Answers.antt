-- The next number is the founder's next, whom nobody refuses.
use Rattle.std.proofs.Common.{◌≡◌, ℕ, ◌+◌, ◌∷◌, Some, sym, ap, subst, ◌∙◌}
use Rattle.std.proofs.lemmas.Option.{same_Some}
use Rattle.phase_history.specs.declared.event.Event.TheVariants.{Registered}
use Rattle.phase_history.specs.Histories.{History, greatest_used}
use Rattle.phase_history.specs.Refusals.{register_refusal}
use Rattle.graph_base.specs.Graphs.{phaser_at}
use Rattle.graph_runs.specs.Moments.{limits_at}
use Rattle.phase_any.specs.Phasers.{PhaserStandsFor}
use Rattle.graph_runs.specs.Beginnings.{roots_joined, root_mode, with_root}
use Rattle.stream_job.proofs.OpeningPhasers.{next_root, joins_root, roots-suc}
use Rattle.stream_job.proofs.opened_cores.join_root.Goals as goal

pub unreachable-requires : goal.unreachable-requires
unreachable-requires c =
    let next = c.next_number.ensures _ _ _ c.requires.core
    ∙ next_root c.args.job.now c.args.p c.args.t c.requires.graph c.requires.task in
    c.in_default-next_number.not-Some _ next

pub unreachable-requires-in_default-refusal : goal.unreachable-requires-in_default-refusal
unreachable-requires-in_default-refusal c =
    let job = c.args.job.now in
    let h : History = roots_joined job c.args.p c.args.t in
    let next = c.next_number.ensures _ _ _ c.requires.core
    ∙ next_root job c.args.p c.args.t c.requires.graph c.requires.task in
    let same : c.in-Some-next_number.number ≡ greatest_used h + 1 =
    same_Some _ _ (sym c.in-Some-next_number.is ∙ next) in
    let some = c.in-Err.ensures.refused c.in_default-refusal.not-OutOfMemory _ _ _
    c.requires.core in
    let none = joins_root job c.args.p c.args.t c.in-Some.mode c.requires.graph
    c.requires.phaser c.requires.task in
    let both = sym (ap (λ n. register_refusal h 0 n c.in-Some.mode) same ∙ none) ∙ some in
    cc

pub returns-in-Ok : goal.returns-in-Ok
returns-in-Ok c =
    let job = c.args.job.now in
    let p : ℕ = c.args.p in
    let h : History = roots_joined job p c.args.t in
    let next = c.next_number.ensures _ _ _ c.requires.core
    ∙ next_root job p c.args.t c.requires.graph c.requires.task in
    let same : c.in-Some-next_number.number ≡ greatest_used h + 1 =
    same_Some _ _ (sym c.in-Some-next_number.is ∙ next) in
    let mode : root_mode job c.args.t p ≡ Some c.in-Some.mode =
    sym c.root_mode.ensures ∙ c.in-Some.is in
    let joined : Registered 0 c.in-Some-next_number.number c.in-Some.mode ∷ h
    ≡ roots_joined job p (c.args.t + 1) =
    ap (λ n. Registered 0 n c.in-Some.mode ∷ h) same
    ∙ sym (roots-suc job p c.args.t ∙ ap (with_root h) mode) in
    subst (PhaserStandsFor c.register.new.self (phaser_at job.graph p).op (limits_at job p)) joined
    (c.in-Ok.ensures.after _ _ _ c.requires.core)

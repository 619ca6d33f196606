-- The short way did both, or nothing; then the signal and the wait come one after the other.
use Rattle.std.proofs.Common.{[], ◌∷◌, sym, subst, ◌∙◌, ap}
use Rattle.phase_history.specs.declared.event.Event.TheVariants.{Signalled}
use Rattle.phase_history.specs.Histories.{History}
use Rattle.phase_history.specs.Replies.{wait_reply}
use Rattle.phase_core.specs.Cores.{CoreState, StandsFor}
use Rattle.phase_core.proofs.OnlyMember.{none_since}
use Rattle.phase_core.proofs.phaser_core.PhaserCore.signal_and_wait.Given.{Over}
use Rattle.phase_core.proofs.phaser_core.PhaserCore.signal_and_wait.Goals.{In-Ok}
use Rattle.phase_core.proofs.phaser_core.PhaserCore.signal_and_wait.Goals as goal

pub returns-in-Some-clause-after : goal.returns-in-Some-clause-after
returns-in-Some-clause-after g c h sends stands holds = (c.in-Some.ensures.passed h sends stands holds).stands

-- what the signal stood for where the short way did nothing
stood : (g : Over) (c : In-Ok g) (h : History) → StandsFor g.A.Accumulate.operation c.args.self.now h
    → StandsFor g.A.Accumulate.operation c.pass.new.self h
stood g c h stands =
    subst (λ (k : CoreState g.row.A.Denot). StandsFor g.A.Accumulate.operation k h) (sym (c.pass.ensures.none (none_since c.pass.result c.in_default.not-Some))) stands

pub returns-in-Ok-clause-waited : goal.returns-in-Ok-clause-waited
returns-in-Ok-clause-waited g c h sends stands holds =
    let at = (goal.at.returns-in-Ok-clause-waited g c).In-Ok in
    let middle : History = Signalled c.args.task (sends ∷ []) c.args.single ∷ h in
    ap (λ l. wait_reply g.A.Accumulate.operation.value l middle c.args.task) (sym (c.in-Ok.ensures.limits ∙ c.pass.ensures.limits))
    ∙ c.wait.ensures.reply middle (c.in-Ok.ensures.after h sends (stood g at h stands) holds)

pub returns-in-Ok-clause-after : goal.returns-in-Ok-clause-after
returns-in-Ok-clause-after g c h sends stands holds =
    let at = (goal.at.returns-in-Ok-clause-after g c).In-Ok in
    c.wait.ensures.after (Signalled c.args.task (sends ∷ []) c.args.single ∷ h) (c.in-Ok.ensures.after h sends (stood g at h stands) holds)

-- The registration looks.
use Rattle.std.proofs.Common.{◌≡◌, sym, ap, subst, ◌∙◌}
use Rattle.phase_shared.specs.Entries.{entry_stays}
use Rattle.phase_shared.specs.contracts.rule.UnwokenSignalRule.TheImpl.{ghosts}
use Rattle.phase_shared.specs.Regs.{phaser_lock, phaser_terms}
use Rattle.phase_shared.specs.Standings.{unregistered}
use Rattle.shared_handle.specs.Members.{Registration, as_registration}
use Rattle.shared_handle.specs.Calls.{AnswersMissing, MissingCall}
use Rattle.shared_handle.proofs.Missing.{missing_try}
use Rattle.shared_handle.proofs.Trying.{member_try}
use Rattle.shared_handle.proofs.member.Member.missing.Goals as goal

pub returns-clause-call : goal.returns-clause-call
returns-clause-call g c =
    let phaser = c.deref-phaser.result.now in
    let old = c.self.inside.loose.reg in
    let new = c.try_missing.new.self in
    let before = c.args.places.now in
    let after = c.try_missing.new.places in
    let answer = c.try_missing.result in
    let at = c.self.invariant ∙ ap phaser_lock (sym c.deref-phaser.ensures) in
    let allows = ghosts.allows in
    let terms = phaser_terms phaser in
    let P : Registration → Type 0 =
    λ m. MissingCall before after m (as_registration new) answer in
    subst P c.self.view_is
    (member_try allows phaser unregistered entry_stays ((new ≡ old) × (after ≡ before))
    ((as_registration new ≡ as_registration old) × (after ≡ before))
    (AnswersMissing old.number old.seen new.seen before after)
    (AnswersMissing old.number old.seen new.seen before after)
    old new answer at (λ still. (ap as_registration still.0, still.1))
    (λ told m. m)
    (missing_try allows terms old new before after answer c.try_missing.ensures.call
    c.try_missing.ensures.places c.try_missing.ensures.busy))

-- The next phase that was asked for is one of these values, from where the registration asked.
use Rattle.std.proofs.Common.{◌≡◌, true, sym, ap, subst, ◌∙◌}
use Rattle.std.specs.Prelude.{None, Ok, unwrap_or}
use Rattle.phase_accum.specs.Parcels.{StandsForSends}
use Rattle.phase_base.specs.Modes.{mode_signals, mode_waits}
use Rattle.phase_shared.specs.Regs.{phaser_lock, phaser_terms}
use Rattle.shared_handle.specs.Members.{AskedRegistration, as_registration, sent_value}
use Rattle.shared_handle.specs.Calls.{NextCall, both_of}
use Rattle.shared_handle.proofs.Ending.{gone_both, back_call}
use Rattle.shared_handle.proofs.Statuses.{told_value}
use Rattle.shared_handle.specs.Told.{next_status, tried_status}
use Rattle.shared_handle.proofs.asked_member.AskedMember.look.Goals as goal

pub returns-in-Ok-clause-ok : goal.returns-in-Ok-clause-ok
returns-in-Ok-clause-ok g c =
    let op = g.A.Accumulate.operation in
    let phaser = c.deref.result.now in
    let values = sent_value c.self.inside.value in
    let old = c.into_asked-asked.result in
    let new = c.in-Ok.reg in
    let at = ap (λ r. r.at) c.into_asked-asked.ensures
    ∙ (c.self.invariant.0 ∙ ap phaser_lock (sym c.deref.ensures)) in
    let stands = subst (λ r. StandsForSends op r.held values) (sym c.into_asked-asked.ensures)
    c.self.invariant.1 in
    let modes = subst (λ e. (mode_signals e.mode ≡ true) × (mode_waits e.mode ≡ true))
    c.entry-entry.ensures.value c.entry-entry.ensures.modes in
    let call = back_call op g.met.A.Accumulate.laws _ phaser old new values (both_of (Ok c.in-Ok.next)) at
    stands (gone_both op _ (phaser_terms phaser) old new modes.0 modes.1 (Ok c.in-Ok.next)
    c.in-Ok.ensures.ok.call) in
    subst (λ (m : AskedRegistration).
    NextCall op.value m.values None m.reg (as_registration new) c.answer.result) c.self.view_is
    (subst (λ r. NextCall op.value values None (as_registration r) (as_registration new)
    c.answer.result) c.into_asked-asked.ensures
    (subst (λ told. NextCall op.value values None (as_registration old) (as_registration new) told)
    (sym c.answer.ensures) call))

pub returns-in-Ok-clause-status : goal.returns-in-Ok-clause-status
returns-in-Ok-clause-status g c =
    ap (λ it. tried_status next_status it) c.answer.ensures
    ∙ told_value (unwrap_or c.in-Ok.next.signalled 0) c.in-Ok.next.got c.in-Ok.ensures.value

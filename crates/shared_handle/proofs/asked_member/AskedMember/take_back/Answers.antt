-- What was taken back is a signal of these values, and a wait where that has an answer.
use Rattle.std.proofs.Common.{◌≢◌, sym, ap, subst, ◌∙◌}
use Rattle.std.specs.Prelude.{None}
use Rattle.phase_accum.specs.Parcels.{StandsForSends}
use Rattle.phase_shared.specs.Regs.{phaser_lock}
use Rattle.shared_handle.specs.Members.{AskedRegistration, as_registration, sent_value}
use Rattle.shared_handle.specs.Calls.{NextCall}
use Rattle.shared_handle.proofs.Ending.{back_call}
use Rattle.shared_handle.proofs.Statuses.{told_back}
use Rattle.shared_handle.specs.Told.{next_status, tried_status}
use Rattle.handle_numbers.specs.declared.numbers.TheConstants.{ENDED}
use Rattle.shared_handle.proofs.asked_member.AskedMember.take_back.Goals as goal

pub returns-in-Ok-clause-ok : goal.returns-in-Ok-clause-ok
returns-in-Ok-clause-ok g c =
    let op = g.A.Accumulate.operation in
    let phaser = c.deref.result.now in
    let values = sent_value c.self.inside.value in
    let old = c.into_asked.result in
    let new = c.in-Ok.reg in
    let at = ap (λ r. r.at) c.into_asked.ensures
    ∙ (c.self.invariant.0 ∙ ap phaser_lock (sym c.deref.ensures)) in
    let stands = subst (λ r. StandsForSends op r.held values) (sym c.into_asked.ensures)
    c.self.invariant.1 in
    let call = back_call op g.met.A.Accumulate.laws _ phaser old new values c.in-Ok.told at stands
    c.in-Ok.ensures.ok.call in
    subst (λ (m : AskedRegistration).
    NextCall op.value m.values None m.reg (as_registration new) c.as_tried.result) c.self.view_is
    (subst (λ r. NextCall op.value values None (as_registration r) (as_registration new)
    c.as_tried.result) c.into_asked.ensures
    (subst (λ told. NextCall op.value values None (as_registration old) (as_registration new) told)
    (sym c.as_tried.ensures) call))

pub returns-in-Ok-clause-status : goal.returns-in-Ok-clause-status
returns-in-Ok-clause-status g c =
    subst (λ it. tried_status next_status it ≢ ENDED) (sym c.as_tried.ensures)
    (told_back c.in-Ok.told c.in-Ok.ensures.value)

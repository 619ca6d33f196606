-- The registration has left, by a history that is legal under the limits of its phaser.
use Rattle.std.proofs.Common.{sym, ap, subst, ◌∙◌}
use Rattle.phase_history.specs.Legal.{IsLegal}
use Rattle.phase_shared.specs.Regs.{phaser_lock}
use Rattle.shared_handle.specs.Members.{HasLeft, IsOnlyOne, as_registration, limits_by}
use Rattle.shared_handle.proofs.member.Member.leave.Goals as goal

pub returns-in-Ok-clause-ok : goal.returns-in-Ok-clause-ok
returns-in-Ok-clause-ok g c =
    let past = c.in-Ok._past in
    let at = ap (λ r. r.at) c.into_reg.ensures
    ∙ (c.self.invariant ∙ ap phaser_lock (sym c.deref.ensures)) in
    subst HasLeft c.self.view_is
    (subst (λ r. HasLeft (as_registration r)) c.into_reg.ensures (record {
      new = past.seen;
      leaves = c.in-Ok.ensures.ok;
      legal = subst (λ place. IsLegal (limits_by place) past.seen) (sym at)
          (c.in-Ok.ensures.good.legal);
    }))

-- it is alone, as the member is
pub returns-in-Err-clause-alone : goal.returns-in-Err-clause-alone
returns-in-Err-clause-alone g c = λ alone.
    let own : IsOnlyOne (as_registration c.into_reg.result) =
    subst (λ r. IsOnlyOne (as_registration r)) (sym c.into_reg.ensures)
    (subst IsOnlyOne (sym c.self.view_is) alone) in
    c.in-Err.ensures.alone own.only

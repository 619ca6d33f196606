use Rattle.std.proofs.Common.{Err, subst, ap, ◌∙◌}
use Rattle.phase_history.specs.declared.refusal.WaitRefusal.TheVariants.{NotYet}
use Rattle.phase_shared.specs.Phasers.{History, wait_phase, IsLegal, wait_refusal, got_at}
use Rattle.phase_shared.specs.Regs.{phaser_limits}
use Rattle.phase_shared.specs.Calls.{Waits}
use Rattle.phase_shared.specs.Closings.{unclosed}
use Rattle.phase_shared.specs.declared.stopped.Stopped.TheVariants.{Refused}
use Rattle.phase_shared.proofs.Answering.{refused_is}
use Rattle.phase_shared.proofs.Giving.{member_after}
use Rattle.phase_shared.proofs.NextSteps.{only_early}
use Rattle.phase_shared.proofs.reg.Reg.get_or_closed.Goals as goal

-- it could be refused as too early alone, and that is told as the close
pub unreachable-requires : goal.unreachable-requires
unreachable-requires g c =
    let old = c.args.self.now in
    let new = c.wait_or_closed.new.self.seen in
    let limits = phaser_limits c.args.phaser.now in
    let value = g.A.Accumulate.operation.value in
    let refusal = c.in-Err-Refused.field-0-0 in
    let is = c.in-Err-Refused.is ∙ ap Err c.in-Err-Refused.field-0-is in
    let waits : Waits value limits old.number old.seen new (Err refusal) =
    subst (λ r. Waits value limits old.number old.seen new (unclosed NotYet r)) is c.wait_or_closed.ensures.call.call in
    let legal : IsLegal limits waits.before = subst (λ (h : History). IsLegal limits h) waits.seen c.wait_or_closed.ensures.call.good.legal in
    let member = member_after limits old.number old.entry old.seen waits.before waits.others legal c.mode-mode.ensures.entry in
    let refused = refused_is (wait_refusal limits waits.before old.number 1) (got_at value waits.before (wait_phase waits.before old.number)) refusal waits.reply in
    let early = only_early limits waits.before old.number old.entry refusal legal member c.requires.waits c.requires.signalled refused in
    c.wait_or_closed.ensures.waited (is ∙ ap (λ r. Err (Refused r)) early)

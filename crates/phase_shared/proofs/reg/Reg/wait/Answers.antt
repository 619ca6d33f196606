use Rattle.std.proofs.Common.{sym, subst}
use Rattle.phase_history.specs.declared.refusal.WaitRefusal.TheVariants.{NotYet, NoTask}
use Rattle.phase_shared.specs.Entries.{entry_after_wait}
use Rattle.phase_shared.specs.Regs.{phaser_terms, phaser_limits}
use Rattle.phase_shared.specs.Calls.{IsCall, Waits}
use Rattle.phase_shared.proofs.reg.Reg.wait.Goals as goal

pub returns-clause-call : goal.returns-clause-call
returns-clause-call g c =
    let old = c.args.self.now in
    let new = c.wait_until.new.self in
    subst (λ r. IsCall g.K.SignalRule.allows (phaser_terms c.args.phaser.now) NoTask entry_after_wait (Waits g.A.Accumulate.operation.value (phaser_limits c.args.phaser.now) old.number old.seen new.seen r) old new r)
    (sym (c.answered.ensures.same NotYet)) c.wait_until.ensures.call

pub returns-clause-waited : goal.returns-clause-waited
returns-clause-waited g c is = c.wait_until.ensures.waited (c.answered.ensures.refused NotYet is)

use Rattle.std.proofs.Common.{sym, subst}
use Rattle.phase_history.specs.declared.refusal.SignalRefusal.TheVariants.{Ahead, NoTask}
use Rattle.phase_shared.specs.Entries.{entry_after_both}
use Rattle.phase_shared.specs.Nexts.{SignalsAndMayWait}
use Rattle.phase_shared.specs.Regs.{phaser_terms, phaser_limits}
use Rattle.phase_shared.specs.Calls.{IsCall}
use Rattle.phase_shared.proofs.reg.Reg.signal_and_wait.Goals as goal

pub returns-clause-call : goal.returns-clause-call
returns-clause-call g c =
    let old = c.args.self.now in
    let new = c.signal_until.new.self in
    subst (λ r. IsCall g.K.SignalRule.allows (phaser_terms c.args.phaser.now) NoTask entry_after_both (SignalsAndMayWait c.args.waits g.A.Accumulate.operation (phaser_limits c.args.phaser.now) old.number old.held c.args.single old.seen new.seen r) old new r)
    (sym (c.answered.ensures.same Ahead)) c.signal_until.ensures.call

pub returns-clause-waited : goal.returns-clause-waited
returns-clause-waited g c is = c.signal_until.ensures.waited (c.answered.ensures.refused Ahead is)

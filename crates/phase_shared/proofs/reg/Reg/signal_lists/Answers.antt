use Rattle.std.proofs.Common.{length, sym, subst}
use Rattle.phase_history.specs.declared.refusal.SignalRefusal.TheVariants.{Ahead, NoTask}
use Rattle.phase_shared.specs.Blocks.{SignalsBlock, entry_after_block}
use Rattle.phase_shared.specs.Regs.{phaser_terms, phaser_limits}
use Rattle.phase_shared.specs.Calls.{IsCall}
use Rattle.phase_shared.proofs.reg.Reg.signal_lists.Goals as goal

pub returns-clause-call : goal.returns-clause-call
returns-clause-call g c =
    let old = c.args.self.now in
    let new = c.signal_lists_until.new.self in
    subst (λ r. IsCall g.K.SignalRule.allows (phaser_terms c.args.phaser.now) NoTask (entry_after_block (length c.args.lists.now)) (SignalsBlock g.A.Accumulate.operation (phaser_limits c.args.phaser.now) old.number c.args.lists.now c.args.single old.seen new.seen r) old new r)
    (sym (c.answered.ensures.same Ahead)) c.signal_lists_until.ensures.call

pub returns-clause-waited : goal.returns-clause-waited
returns-clause-waited g c is = c.signal_lists_until.ensures.waited (c.answered.ensures.refused Ahead is)

use Rattle.std.proofs.Common.{false, subst, ap, ◌∙◌, rules}
use Rattle.std.specs.Result.{result_ok}
use Rattle.phase_base.specs.Members.{signalled}
use Rattle.phase_history.specs.declared.refusal.SignalRefusal.TheVariants.{Ahead}
use Rattle.phase_shared.specs.Regs.{phaser_limits}
use Rattle.phase_shared.specs.Closings.{unclosed}
use Rattle.phase_shared.specs.Entries.{entry_after_both}
use Rattle.phase_shared.specs.Nexts.{SignalsAndMayWait, HasSignalledAndMayWait}
use Rattle.phase_shared.proofs.Later.{signals_alone, entry_alone}
use Rattle.phase_shared.proofs.reg.Reg.signal_or_closed.Goals as goal

pub returns-in-Ok-clause-call : goal.returns-in-Ok-clause-call
returns-in-Ok-clause-call g c =
    let op = g.A.Accumulate.operation in
    let limits = phaser_limits c.args.phaser.now in
    let old = c.args.self.now in
    let new = c.signal_until.new.self in
    let t = c.signal_until.ensures.call in
    let s : HasSignalledAndMayWait false op limits old.number old.held c.args.single old.seen new.seen c.in-Ok.answer =
    subst (λ r. SignalsAndMayWait false op limits old.number old.held c.args.single old.seen new.seen (unclosed Ahead r)) c.in-Ok.is t.call in
    record {
      call = signals_alone op limits old.number old.held c.args.single old.seen new.seen c.in-Ok.answer s;
      entry = t.entry ∙ ap (λ r. entry_after_both (result_ok (unclosed Ahead r)) old.entry) c.in-Ok.is
          ∙ entry_alone op.value limits old.number s.middle new.seen c.in-Ok.answer.1 (signalled 1 old.entry) s.waits;
      mode = t.mode;
      at = t.at;
      good = t.good;
      known = search rules;
    }

pub returns-in-Err-clause-call : goal.returns-in-Err-clause-call
returns-in-Err-clause-call g c =
    let op = g.A.Accumulate.operation in
    let limits = phaser_limits c.args.phaser.now in
    let old = c.args.self.now in
    let new = c.signal_until.new.self in
    let t = c.signal_until.ensures.call in
    record {
      call = subst (λ r. SignalsAndMayWait false op limits old.number old.held c.args.single old.seen new.seen (unclosed Ahead r)) c.in-Err.is t.call;
      entry = t.entry ∙ ap (λ r. entry_after_both (result_ok (unclosed Ahead r)) old.entry) c.in-Err.is;
      mode = t.mode;
      at = t.at;
      good = t.good;
      known = search rules;
    }

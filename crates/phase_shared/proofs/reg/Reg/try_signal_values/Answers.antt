use Rattle.std.proofs.Common.{length, refl, sym, subst}
use Rattle.phase_history.specs.declared.refusal.SignalRefusal.TheVariants.{NoTask}
use Rattle.phase_shared.specs.Regs.{RegState, phaser_terms, phaser_limits}
use Rattle.phase_shared.specs.Blocks.{SignalsValues, MaySignalValues, entry_after_block}
use Rattle.phase_shared.proofs.Opening.{opened, closed, is_try}
use Rattle.phase_shared.proofs.reg.Reg.try_signal_values.Goals as goal

pub signal_values-seat-requires : goal.signal_values-seat-requires
signal_values-seat-requires g c =
    let o = opened g.K.SignalRule.allows c.args.phaser.now.locked c.self.inside.number c.self.inside.entry c.self.inside.pending c.self.inside.seat c.taken-seat.result c.args.self.now
    c.taken-seat.ensures c.self.invariant c.self.view_is c.requires.at in
    let P : RegState g.row.A.Denot g.row.K.Denot → Type 0 =
    λ r. MaySignalValues g.K.SignalRule.allows (phaser_terms c.args.phaser.now) r c.args.values.now c.args.single in
    record { seat = o.seat; sends = c.requires.sends; room = c.requires.room; rule = subst P (sym o.is) c.requires.rule }

pub invariant_of-self : goal.invariant_of-self
invariant_of-self g c = closed g.K.SignalRule.allows c.args.phaser.now.locked c.self.inside.number c.signal_values-seat.result.1 c.signal_values-seat.result.0 c.signal_values-seat.ensures.step.at

pub returns-clause-call : goal.returns-clause-call
returns-clause-call g c =
    is_try g.K.SignalRule.allows c.args.phaser.now.locked c.self.inside.number NoTask (entry_after_block (length c.args.values.now))
    (λ old new answer. SignalsValues (phaser_limits c.args.phaser.now) old.number c.args.values.now c.args.single old.seen new answer)
    c.self.inside.entry c.signal_values-seat.result.1 c.self.inside.pending c.self.inside.pending c.taken-seat.result c.signal_values-seat.result.0 c.args.self.now
    c.signal_values-seat.result.2
    (opened g.K.SignalRule.allows c.args.phaser.now.locked c.self.inside.number c.self.inside.entry c.self.inside.pending c.self.inside.seat c.taken-seat.result c.args.self.now
    c.taken-seat.ensures c.self.invariant c.self.view_is c.requires.at)
    (λ answer e. refl) (λ none. refl) c.signal_values-seat.ensures.step

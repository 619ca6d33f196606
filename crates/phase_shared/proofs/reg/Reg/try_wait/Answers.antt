use Rattle.std.proofs.Common.{refl}
use Rattle.phase_history.specs.declared.refusal.WaitRefusal.TheVariants.{NoTask}
use Rattle.phase_shared.specs.Regs.{phaser_limits}
use Rattle.phase_shared.specs.Calls.{Waits}
use Rattle.phase_shared.specs.Entries.{entry_after_wait}
use Rattle.phase_shared.proofs.Opening.{opened, closed, is_try}
use Rattle.phase_shared.proofs.reg.Reg.try_wait.Goals as goal

pub wait-seat-requires : goal.wait-seat-requires
wait-seat-requires g c =
    (opened g.K.SignalRule.allows c.args.phaser.now.locked c.self.inside.number c.self.inside.entry c.self.inside.pending c.self.inside.seat c.taken-seat.result c.args.self.now
    c.taken-seat.ensures c.self.invariant c.self.view_is c.requires.at).seat

pub invariant_of-self : goal.invariant_of-self
invariant_of-self g c = closed g.K.SignalRule.allows c.args.phaser.now.locked c.self.inside.number c.wait-seat.result.1 c.wait-seat.result.0 c.wait-seat.ensures.at

pub returns-clause-call : goal.returns-clause-call
returns-clause-call g c =
    is_try g.K.SignalRule.allows c.args.phaser.now.locked c.self.inside.number NoTask entry_after_wait
    (λ old new answer. Waits g.A.Accumulate.operation.value (phaser_limits c.args.phaser.now) old.number old.seen new answer)
    c.self.inside.entry c.wait-seat.result.1 c.self.inside.pending c.self.inside.pending c.taken-seat.result c.wait-seat.result.0 c.args.self.now c.wait-seat.result.2
    (opened g.K.SignalRule.allows c.args.phaser.now.locked c.self.inside.number c.self.inside.entry c.self.inside.pending c.self.inside.seat c.taken-seat.result c.args.self.now
    c.taken-seat.ensures c.self.invariant c.self.view_is c.requires.at)
    (λ answer e. refl) (λ none. refl) c.wait-seat.ensures

-- A signal receives nothing.
use Rattle.std.proofs.Common.{sym, ap, ◌∙◌}
use Rattle.phase_shared.specs.Regs.{phaser_limits}
use Rattle.phase_shared.specs.Calls.{Signals}
use Rattle.phase_received.specs.Received.{received_of}
use Rattle.phase_received.proofs.Kept.{received_by_try}
use Rattle.phase_received.proofs.receiver.Receiver.try_signal.Goals as goal

pub invariant_of-self : goal.invariant_of-self
invariant_of-self g c =
    let op = g.A.Accumulate.operation in
    let limits = phaser_limits c.args.phaser.now in
    let old = c.self.inside.reg in
    let new = c.try_signal.new.self in
    let t = c.try_signal.ensures.call in
    c.self.invariant
    ∙ sym (received_by_try op old new (Signals op limits old.number old.held c.args.single old.seen new.seen) c.try_signal.result t.call
    (λ answer s. c.signals.ensures.received op.value limits old.number old.held c.args.single old.seen new.seen answer s) t.at.1)

pub returns-clause-received : goal.returns-clause-received
returns-clause-received g c =
    let op = g.A.Accumulate.operation in
    let limits = phaser_limits c.args.phaser.now in
    let old = c.self.inside.reg in
    let new = c.try_signal.new.self in
    let t = c.try_signal.ensures.call in
    received_by_try op old new (Signals op limits old.number old.held c.args.single old.seen new.seen) c.try_signal.result t.call
    (λ answer s. c.signals.ensures.received op.value limits old.number old.held c.args.single old.seen new.seen answer s) t.at.1
    ∙ ap (received_of op) c.self.view_is

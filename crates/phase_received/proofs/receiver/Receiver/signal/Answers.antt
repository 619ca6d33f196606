-- A signal receives nothing.
use Rattle.std.proofs.Common.{sym, ap, ◌∙◌}
use Rattle.phase_shared.specs.Regs.{phaser_limits}
use Rattle.phase_received.specs.Received.{received_of}
use Rattle.phase_received.proofs.Kept.{received_now}
use Rattle.phase_received.proofs.receiver.Receiver.signal.Goals as goal

pub invariant_of-self : goal.invariant_of-self
invariant_of-self g c =
    let op = g.A.Accumulate.operation in
    let old = c.self.inside.reg in
    let new = c.signal.new.self in
    c.self.invariant
    ∙ sym (received_now op old new (received_of op old) c.signal.ensures.call.at.1
    (c.signals.ensures.received op.value (phaser_limits c.args.phaser.now) old.number old.held c.args.single old.seen new.seen
    c.signal.result c.signal.ensures.call.call))

pub returns-clause-received : goal.returns-clause-received
returns-clause-received g c =
    let op = g.A.Accumulate.operation in
    let old = c.self.inside.reg in
    let new = c.signal.new.self in
    received_now op old new (received_of op old) c.signal.ensures.call.at.1
    (c.signals.ensures.received op.value (phaser_limits c.args.phaser.now) old.number old.held c.args.single old.seen new.seen
    c.signal.result c.signal.ensures.call.call)
    ∙ ap (received_of op) c.self.view_is

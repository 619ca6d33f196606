-- A registration receives nothing.
use Rattle.std.proofs.Common.{ap, sym, ◌∙◌}
use Rattle.phase_received.specs.Received.{received_of}
use Rattle.phase_received.proofs.Kept.{received_by_parent}
use Rattle.phase_received.proofs.receiver.Receiver.register.Goals as goal

pub invariant_of-self : goal.invariant_of-self
invariant_of-self g c =
    let call = c.child_of.ensures.call in
    c.self.invariant
    ∙ sym (received_by_parent g.A.Accumulate.operation c.args.mode c.self.inside.reg c.child_of.new.parent c.child_of.result
    call.call call.at.1)

pub returns-clause-received : goal.returns-clause-received
returns-clause-received g c =
    let op = g.A.Accumulate.operation in
    let call = c.child_of.ensures.call in
    received_by_parent op c.args.mode c.self.inside.reg c.child_of.new.parent c.child_of.result call.call call.at.1
    ∙ ap (received_of op) c.self.view_is

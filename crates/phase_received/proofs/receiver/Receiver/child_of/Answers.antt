-- A new child has received nothing.
use Rattle.std.proofs.Common.{◌≡◌, [], sym, ap, subst, ◌∙◌}
use Rattle.phase_history.specs.Phases.{received_by}
use Rattle.phase_shared.specs.Regs.{phaser_limits}
use Rattle.phase_shared.specs.Calls.{Registers, IsChild}
use Rattle.phase_received.specs.Received.{received_of}
use Rattle.phase_received.proofs.receiver.Receiver.child_of.Given.{Over}
use Rattle.phase_received.proofs.receiver.Receiver.child_of.Goals.{In-Ok}
use Rattle.phase_received.proofs.receiver.Receiver.child_of.Goals as goal

-- the child has received nothing
nothing : (g : Over) (c : In-Ok g) → received_of g.A.Accumulate.operation c.in-Ok.reg ≡ []
nothing g c =
    let op = g.A.Accumulate.operation in
    let old = c.args.parent.now in
    let new = c.register.new.self in
    let child = c.in-Ok.reg in
    let is : IsChild op c.args.mode old new child =
    subst (λ r. Registers op c.args.mode old new r) c.in-Ok.is c.register.ensures.call.call in
    ap (λ h. received_by op.value h child.number) is.seen
    ∙ (c.registers.ensures.child (phaser_limits c.args.phaser.now) old.number child.number c.args.mode old.seen new.seen
    c.register.ensures.call.good.legal is.registered).received op.value

pub invariant_of-result : goal.invariant_of-result
invariant_of-result g c = c.new.ensures.items ∙ sym (nothing g (goal.at.invariant_of-result g c).In-Ok)

pub returns-clause-child : goal.returns-clause-child
returns-clause-child g c = nothing g (goal.at.returns-clause-child g c).In-Ok

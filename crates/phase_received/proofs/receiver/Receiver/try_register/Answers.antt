-- A new child has received nothing, and its parent no more.
use Rattle.std.proofs.Common.{◌≡◌, [], sym, ap, subst, ◌∙◌}
use Rattle.phase_history.specs.Phases.{received_by}
use Rattle.phase_shared.specs.Regs.{phaser_limits}
use Rattle.phase_shared.specs.Calls.{Tries, Registers, IsChild}
use Rattle.phase_received.specs.Received.{received_of}
use Rattle.phase_received.proofs.Kept.{parent_received, received_by_try}
use Rattle.phase_received.proofs.receiver.Receiver.try_register.Given.{Over}
use Rattle.phase_received.proofs.receiver.Receiver.try_register.Goals.{In-Ok}
use Rattle.phase_received.proofs.receiver.Receiver.try_register.Goals as goal

-- the child has received nothing
nothing : (g : Over) (c : In-Ok g) → received_of g.A.Accumulate.operation c.in-Ok.reg ≡ []
nothing g c =
    let op = g.A.Accumulate.operation in
    let old = c.self.inside.reg in
    let new = c.try_register.new.self in
    let child = c.in-Ok.reg in
    let t = c.try_register.ensures.call in
    let is : IsChild op c.args.mode old new child =
    subst (λ r. Tries (new ≡ old) (Registers op c.args.mode old new) r) c.in-Ok.is t.call in
    ap (λ h. received_by op.value h child.number) is.seen
    ∙ (c.registers.ensures.child (phaser_limits c.args.phaser.now) old.number child.number c.args.mode old.seen new.seen
    t.good.legal is.registered).received op.value

-- the parent has received what it had
same : (g : Over) (c : In-Ok g) → received_of g.A.Accumulate.operation c.try_register.new.self ≡ received_of g.A.Accumulate.operation c.self.inside.reg
same g c =
    let op = g.A.Accumulate.operation in
    let old = c.self.inside.reg in
    let new = c.try_register.new.self in
    let t = c.try_register.ensures.call in
    received_by_try op old new (Registers op c.args.mode old new) c.try_register.result t.call
    (λ answer r. parent_received op c.args.mode old new answer r) t.at.1

pub invariant_of-result : goal.invariant_of-result
invariant_of-result g c = c.new.ensures.items ∙ sym (nothing g (goal.at.invariant_of-result g c).In-Ok)

pub invariant_of-self-2 : goal.invariant_of-self-2
invariant_of-self-2 g c = c.self.invariant ∙ sym (same g (goal.at.invariant_of-self-2 g c).In-Ok)

pub returns-clause-child : goal.returns-clause-child
returns-clause-child g c = nothing g (goal.at.returns-clause-child g c).In-Ok

pub returns-clause-received : goal.returns-clause-received
returns-clause-received g c =
    same g (goal.at.returns-clause-received g c).In-Ok ∙ ap (received_of g.A.Accumulate.operation) c.self.view_is

-- Who looks receives nothing.
use Rattle.std.proofs.Common.{Ok, sym, ap, ◌∙◌}
use Rattle.phase_received.specs.Received.{received_of}
use Rattle.phase_received.proofs.Kept.{received_now, told_received}
use Rattle.phase_received.proofs.receiver.Receiver.missing.Goals as goal

pub invariant_of-self : goal.invariant_of-self
invariant_of-self g c =
    let op = g.A.Accumulate.operation in
    let old = c.self.inside.reg in
    let new = c.missing.new.self in
    let call = c.missing.ensures.call in
    c.self.invariant
    ∙ sym (received_now op old new (received_of op old) call.at.1
    (told_received op old new (Ok c.missing.result) c.own_part_stays.ensures.received call.call))

pub returns-clause-received : goal.returns-clause-received
returns-clause-received g c =
    let op = g.A.Accumulate.operation in
    let old = c.self.inside.reg in
    let new = c.missing.new.self in
    let call = c.missing.ensures.call in
    received_now op old new (received_of op old) call.at.1
    (told_received op old new (Ok c.missing.result) c.own_part_stays.ensures.received call.call)
    ∙ ap (received_of op) c.self.view_is

-- Who looks receives nothing.
use Rattle.std.proofs.Common.{sym, ap, ◌∙◌}
use Rattle.phase_shared.specs.Standings.{AnswersStanding}
use Rattle.phase_received.specs.Received.{received_of}
use Rattle.phase_received.proofs.Kept.{received_by_try, told_received}
use Rattle.phase_received.proofs.receiver.Receiver.try_missing.Goals as goal

pub invariant_of-self : goal.invariant_of-self
invariant_of-self g c =
    let op = g.A.Accumulate.operation in
    let old = c.self.inside.reg in
    let new = c.try_missing.new.self in
    let t = c.try_missing.ensures.call in
    c.self.invariant
    ∙ sym (received_by_try op old new (AnswersStanding old.number old.seen new.seen) c.try_missing.result t.call
    (λ answer told. told_received op old new answer c.own_part_stays.ensures.received told) t.at.1)

pub returns-clause-received : goal.returns-clause-received
returns-clause-received g c =
    let op = g.A.Accumulate.operation in
    let old = c.self.inside.reg in
    let new = c.try_missing.new.self in
    let t = c.try_missing.ensures.call in
    received_by_try op old new (AnswersStanding old.number old.seen new.seen) c.try_missing.result t.call
    (λ answer told. told_received op old new answer c.own_part_stays.ensures.received told) t.at.1
    ∙ ap (received_of op) c.self.view_is

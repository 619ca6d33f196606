-- A registration stands behind those that were received before.
use Rattle.stream_tasks.proofs.Seeding.{has_received}
use Rattle.stream_tasks.proofs.seed.Seed.receive.Goals as goal

pub returns-clause-received : goal.returns-clause-received
returns-clause-received c =
    λ job spots has root.
    let s = c.args.self.now.state in
    let all = has_received job spots s.number c.number.result s.holds.items
    c.push_reserved-2.new.self.items s.numbers.items c.push_reserved.new.self.items c.args.member
    c.push_reserved-2.ensures.items c.push_reserved.ensures.items c.number.ensures has.long has.each
    root in
    record { long = all.0; each = all.1 }

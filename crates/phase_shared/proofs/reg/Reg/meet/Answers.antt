use Rattle.phase_shared.proofs.Meeting.{Met, met}
use Rattle.phase_shared.proofs.Opening.{opened, closed}
use Rattle.phase_shared.proofs.reg.Reg.meet.Given.{Over}
use Rattle.phase_shared.proofs.reg.Reg.meet.Goals.{After-meet-seat}
use Rattle.phase_shared.proofs.reg.Reg.meet.Goals as goal

pub meet-seat-requires : goal.meet-seat-requires
meet-seat-requires g c =
    let one = (opened g.K.SignalRule.allows c.args.phaser.now.locked c.first.inside.number c.first.inside.entry c.first.inside.pending c.first.inside.seat
    c.taken-seat.result c.args.self c.taken-seat.ensures c.first.invariant c.first.view_is c.requires.at.0).seat in
    let other = (opened g.K.SignalRule.allows c.args.phaser.now.locked c.second.inside.number c.second.inside.entry c.second.inside.pending c.second.inside.seat
    c.taken-other_seat.result c.args.other c.taken-other_seat.ensures c.second.invariant c.second.view_is c.requires.at.1).seat in
    record {
      seat = record { here = one.here; knows = record { task = c.first.inside.number; rests = one.knows.rests } };
      other = record { here = other.here; knows = record { task = c.second.inside.number; rests = other.knows.rests } };
    }

-- what both have seen
both : (g : Over) (c : After-meet-seat g) → Met g.K.SignalRule.allows c.args.phaser.now.locked c.first.inside.number c.second.inside.number
    c.first.inside.entry c.second.inside.entry c.args.self c.args.other c.meet-seat.result.0 c.meet-seat.result.1
both g c =
    met g.K.SignalRule.allows c.args.phaser.now.locked c.first.inside.number c.second.inside.number c.first.inside.entry c.second.inside.entry
    c.first.inside.pending c.second.inside.pending c.args.self c.args.other c.taken-seat.result c.taken-other_seat.result c.meet-seat.result.0 c.meet-seat.result.1
    (opened g.K.SignalRule.allows c.args.phaser.now.locked c.first.inside.number c.first.inside.entry c.first.inside.pending c.first.inside.seat
    c.taken-seat.result c.args.self c.taken-seat.ensures c.first.invariant c.first.view_is c.requires.at.0)
    (opened g.K.SignalRule.allows c.args.phaser.now.locked c.second.inside.number c.second.inside.entry c.second.inside.pending c.second.inside.seat
    c.taken-other_seat.result c.args.other c.taken-other_seat.ensures c.second.invariant c.second.view_is c.requires.at.1) c.meet-seat.ensures

pub invariant_of-first : goal.invariant_of-first
invariant_of-first g c = closed g.K.SignalRule.allows c.args.phaser.now.locked c.first.inside.number c.first.inside.entry c.meet-seat.result.0 (both g (goal.at.invariant_of-first g c).After-meet-seat).left

pub invariant_of-second : goal.invariant_of-second
invariant_of-second g c = closed g.K.SignalRule.allows c.args.phaser.now.locked c.second.inside.number c.second.inside.entry c.meet-seat.result.1 (both g (goal.at.invariant_of-second g c).After-meet-seat).right

pub returns-clause-one : goal.returns-clause-one
returns-clause-one g c = (both g (goal.at.returns-clause-one g c).After-meet-seat).one

pub returns-clause-apart : goal.returns-clause-apart
returns-clause-apart g c = (both g (goal.at.returns-clause-apart g c).After-meet-seat).apart

pub returns-clause-good : goal.returns-clause-good
returns-clause-good g c = (both g (goal.at.returns-clause-good g c).After-meet-seat).left.knows.good

pub returns-clause-begins : goal.returns-clause-begins
returns-clause-begins g c = (both g (goal.at.returns-clause-begins g c).After-meet-seat).begins

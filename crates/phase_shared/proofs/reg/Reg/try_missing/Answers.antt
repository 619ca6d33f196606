use Rattle.std.proofs.Common.{refl}
use Rattle.phase_shared.specs.Entries.{entry_stays}
use Rattle.phase_shared.specs.Standings.{AnswersStanding, unregistered}
use Rattle.phase_shared.proofs.Opening.{opened, closed, is_try_as, same_reg}
use Rattle.turn_lock.specs.Seats.{IsSameSeat}
use Rattle.std.specs.Prelude.{◌≡◌, Some}
use Rattle.phase_shared.specs.Regs.{reg_state}
use Rattle.phase_shared.proofs.reg.Reg.try_missing.Goals as goal

pub look_round-seat-requires : goal.look_round-seat-requires
look_round-seat-requires g c =
    (opened g.K.SignalRule.allows c.args.phaser.now.locked c.self.inside.number c.self.inside.entry c.self.inside.pending c.self.inside.seat c.taken-seat.result c.args.self.now
    c.taken-seat.ensures c.self.invariant c.self.view_is c.requires.at).seat

pub invariant_of-self : goal.invariant_of-self
invariant_of-self g c =
    closed g.K.SignalRule.allows c.args.phaser.now.locked c.self.inside.number c.self.inside.entry c.look_round-seat.result.0 c.look_round-seat.ensures.step.at

pub returns-clause-call : goal.returns-clause-call
returns-clause-call g c =
    let i = c.self.inside in
    let allows = g.K.SignalRule.allows in
    let phaser = c.args.phaser.now.locked in
    is_try_as allows phaser i.number unregistered entry_stays (IsSameSeat c.taken-seat.result c.look_round-seat.result.0)
    (λ r. reg_state (Some c.look_round-seat.result.0) i.number i.entry i.pending ≡ r)
    (λ old new answer. AnswersStanding old.number old.seen new answer)
    i.entry i.entry i.pending i.pending c.taken-seat.result c.look_round-seat.result.0 c.args.self.now c.look_round-seat.result.1
    (opened allows phaser i.number i.entry i.pending i.seat c.taken-seat.result c.args.self.now
    c.taken-seat.ensures c.self.invariant c.self.view_is c.requires.at)
    (λ answer e. refl)
    (λ err same. same_reg allows phaser i.number i.entry i.entry i.pending i.pending c.taken-seat.result c.look_round-seat.result.0 same refl refl)
    c.look_round-seat.ensures.step

use Rattle.std.proofs.Common.{◌≡◌, Some, refl}
use Rattle.turn_lock.specs.Seats.{IsSameSeat}
use Rattle.phase_history.specs.declared.refusal.WaitRefusal.TheVariants.{NoTask}
use Rattle.phase_shared.specs.Regs.{RegState, reg_state, phaser_limits}
use Rattle.phase_shared.specs.Blocks.{WaitsBlock, entry_after_values}
use Rattle.phase_shared.proofs.Opening.{opened, closed, same_reg, is_try_as}
use Rattle.phase_shared.proofs.reg.Reg.try_wait_block.Goals as goal

pub wait_block-seat-requires : goal.wait_block-seat-requires
wait_block-seat-requires g c =
    (opened g.K.SignalRule.allows c.args.phaser.now.locked c.self.inside.number c.self.inside.entry c.self.inside.pending c.self.inside.seat c.taken-seat.result c.args.self.now
    c.taken-seat.ensures c.self.invariant c.self.view_is c.requires.at).seat

pub invariant_of-self : goal.invariant_of-self
invariant_of-self g c = closed g.K.SignalRule.allows c.args.phaser.now.locked c.self.inside.number c.wait_block-seat.result.1 c.wait_block-seat.result.0 c.wait_block-seat.ensures.at

pub returns-clause-call : goal.returns-clause-call
returns-clause-call g c =
    let inside = c.self.inside in
    let s = c.taken-seat.result in
    let s' = c.wait_block-seat.result.0 in
    let entry' = c.wait_block-seat.result.1 in
    let out = c.wait_block-seat.new.out in
    let old_out = c.args.out.now in
    let same' : RegState g.row.A.Denot g.row.K.Denot → Type 0 = λ r. (reg_state (Some s') inside.number entry' inside.pending ≡ r) × (out ≡ old_out) in
    is_try_as g.K.SignalRule.allows c.args.phaser.now.locked inside.number NoTask entry_after_values
    (IsSameSeat s s' × (entry' ≡ inside.entry) × (out ≡ old_out)) same'
    (λ old new answer. WaitsBlock g.A.Accumulate.operation.value (phaser_limits c.args.phaser.now) old.number old.seen new old_out out answer)
    inside.entry entry' inside.pending inside.pending s s' c.args.self.now c.wait_block-seat.result.2
    (opened g.K.SignalRule.allows c.args.phaser.now.locked c.self.inside.number c.self.inside.entry c.self.inside.pending c.self.inside.seat c.taken-seat.result c.args.self.now
    c.taken-seat.ensures c.self.invariant c.self.view_is c.requires.at)
    (λ answer e. refl)
    (λ err same.
    (same_reg g.K.SignalRule.allows c.args.phaser.now.locked inside.number inside.entry entry' inside.pending inside.pending s s' same.0 same.1 refl, same.2))
    c.wait_block-seat.ensures

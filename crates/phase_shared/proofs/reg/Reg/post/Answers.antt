use Rattle.std.proofs.Common.{◌≡◌, true, Some, None, refl, sym, subst}
use Rattle.turn_lock.specs.Seats.{seat_view}
use Rattle.phase_base.specs.Modes.{mode_signals, mode_waits}
use Rattle.phase_shared.specs.Calls.{MaySignal}
use Rattle.phase_shared.specs.LockedPhasers.{locked_terms}
use Rattle.phase_shared.specs.Regs.{RegState, reg_state}
use Rattle.phase_shared.specs.Rule.{IsSeatOfTask}
use Rattle.phase_shared.specs.Servings.{ask_of, IsRequestOf, MayGoNext}
use Rattle.phase_shared.specs.Views.{known_of}
use Rattle.phase_shared.proofs.AskNexts.{may_go}
use Rattle.phase_shared.proofs.AskedOpening.{asked_seat}
use Rattle.phase_shared.proofs.Opening.{Opened, opened, closed}
use Rattle.phase_shared.proofs.reg.Reg.post.Given.{Over}
use Rattle.phase_shared.proofs.reg.Reg.post.Goals.{In-Some}
use Rattle.phase_shared.proofs.reg.Reg.post.Goals as goal

-- the registration before the call, and its seat
module _ (g : Over) (c : In-Some g) where
  abbrev Reg : Type 0
  Reg = RegState g.row.A.Denot g.row.K.Denot

  abbrev old : Reg
  old = reg_state (Some c.in-Some.seat) c.self.inside.number c.self.inside.entry c.self.inside.pending

  there : Opened g.K.SignalRule.allows c.args.phaser.now.locked c.self.inside.number c.self.inside.entry c.self.inside.pending c.in-Some.seat c.args.self
  there = opened g.K.SignalRule.allows c.args.phaser.now.locked c.self.inside.number c.self.inside.entry c.self.inside.pending c.self.inside.seat
      c.in-Some.seat c.args.self c.in-Some.is c.self.invariant c.self.view_is c.requires.at

  may : MayGoNext (locked_terms c.args.phaser.now.locked).limits (g.K.SignalRule.allows (locked_terms c.args.phaser.now.locked).rule) (ask_of c.args.request)
      (known_of (seat_view c.in-Some.seat)).seen (seat_view c.in-Some.seat)
  may =
      let op = g.A.Accumulate.operation in
      let allows = g.K.SignalRule.allows in
      let terms = locked_terms c.args.phaser.now.locked in
      let s = there.seat in
      let asks : IsRequestOf op c.args.request old = subst (λ (r : Reg). IsRequestOf op c.args.request r) (sym there.is) c.requires.request in
      let both : (mode_signals old.entry.mode ≡ true) × (mode_waits old.entry.mode ≡ true) =
      subst (λ (r : Reg). (mode_signals r.entry.mode ≡ true) × (mode_waits r.entry.mode ≡ true)) (sym there.is) c.requires.both in
      let rule : MaySignal op allows terms old None = subst (λ (r : Reg). MaySignal op allows terms r None) (sym there.is) c.requires.rule in
      may_go op allows terms old c.args.request asks both.0 both.1 s.knows.member (seat_view c.in-Some.seat) s.knows.rests refl rule

pub post-seat-requires : goal.post-seat-requires
post-seat-requires g c =
    let at = (goal.at.post-seat-requires g c).In-Some in
    record {
      seat = (there g at).seat.here;
      call = record { place_is = refl; terms_is = refl; ask_is = refl };
      next = may g at;
    }

-- it asks from where it stood
pub invariant_of-result : goal.invariant_of-result
invariant_of-result g c =
    let at = (goal.at.invariant_of-result g c).In-Some in
    let i = c.self.inside in
    (asked_seat g.A.Accumulate.operation g.K.SignalRule.allows c.args.phaser.now.locked i.number i.entry i.pending c.args.request c.in-Some.seat
    c.post-seat.result.0 c.args.self (there g at) c.requires.request c.requires.both (may g at).waits c.post-seat.ensures.seat
    (c.post-seat.ensures.asks c.if-asks.true)).0

-- its lane is not its own: it rests
pub invariant_of-result-2 : goal.invariant_of-result-2
invariant_of-result-2 g c =
    let at = (goal.at.invariant_of-result-2 g c).In-Some in
    closed g.K.SignalRule.allows c.args.phaser.now.locked c.self.inside.number c.self.inside.entry c.post-seat.result.0 (record {
      here = c.post-seat.ensures.seat;
      knows = subst (λ v. IsSeatOfTask g.K.SignalRule.allows (locked_terms c.args.phaser.now.locked) c.self.inside.number c.self.inside.entry v)
          (sym (c.post-seat.ensures.other c.if-asks.false)) (there g at).seat.knows;
    })

use Rattle.std.proofs.Common.{◌≡◌, ◌+◌, true, None, Some, Ok, Err, refl, sym, subst, ◌∙◌}
use Rattle.std.specs.Prelude.{IfSome, IfNone}
use Rattle.turn_lock.specs.Seats.{seat_view}
use Rattle.phase_base.specs.Modes.{mode_signals, mode_waits}
use Rattle.phase_history.specs.declared.got.Got.TheVariants.{Value}
use Rattle.phase_history.specs.declared.refusal.SignalRefusal.TheVariants.{NoTask}
use Rattle.phase_shared.specs.Calls.{IsCall, MaySignal}
use Rattle.phase_shared.specs.Entries.{entry_after_next}
use Rattle.phase_shared.specs.Nexts.{GoesOrRefuses}
use Rattle.phase_shared.specs.Regs.{RegState, reg_state, phaser_terms}
use Rattle.phase_shared.specs.Rule.{IsSeatOfTask}
use Rattle.phase_shared.specs.Servings.{ask_of, HasEnded, IsRequestOf}
use Rattle.phase_shared.specs.declared.next.Next.{Next}
use Rattle.phase_shared.proofs.AskNexts.{may_go, answered_seat, answered_call, refused_seat, refused_call}
use Rattle.phase_shared.proofs.Opening.{Opened, opened, closed, same_place}
use Rattle.phase_shared.proofs.reg.Reg.ask_once.Given.{Over}
use Rattle.phase_shared.proofs.reg.Reg.ask_once.Goals.{After-taken-seat, In_default}
use Rattle.phase_shared.proofs.reg.Reg.ask_once.Goals as goal

-- the registration before the call, its seat, and what is asked for
module _ (g : Over) (c : After-taken-seat g) where
  abbrev Reg : Type 0
  Reg = RegState g.row.A.Denot g.row.K.Denot

  abbrev old : Reg
  old = reg_state (Some c.taken-seat.result) c.self.inside.number c.self.inside.entry c.self.inside.pending

  there : Opened g.K.SignalRule.allows c.args.phaser.now.locked c.self.inside.number c.self.inside.entry c.self.inside.pending c.taken-seat.result c.args.self.now
  there = opened g.K.SignalRule.allows c.args.phaser.now.locked c.self.inside.number c.self.inside.entry c.self.inside.pending c.self.inside.seat
      c.taken-seat.result c.args.self.now c.taken-seat.ensures c.self.invariant c.self.view_is c.requires.at

  asks : IsRequestOf g.A.Accumulate.operation c.args.request old
  asks = subst (λ (r : Reg). IsRequestOf g.A.Accumulate.operation c.args.request r) (sym there.is) c.requires.request

  both : (mode_signals old.entry.mode ≡ true) × (mode_waits old.entry.mode ≡ true)
  both = subst (λ (r : Reg). (mode_signals r.entry.mode ≡ true) × (mode_waits r.entry.mode ≡ true)) (sym there.is) c.requires.both

pub next-seat-requires : goal.next-seat-requires
next-seat-requires g c =
    let a = (goal.at.next-seat-requires g c).After-taken-seat in
    let op = g.A.Accumulate.operation in
    let allows = g.K.SignalRule.allows in
    let terms = phaser_terms c.args.phaser.now in
    let s = (there g a).seat in
    let may : MaySignal op allows terms (old g a) None = subst (λ (r : Reg g a). MaySignal op allows terms r None) (sym (there g a).is) c.requires.rule in
    record {
      seat = s.here;
      call = record { place_is = refl; terms_is = refl; ask_is = refl };
      next = may_go op allows terms (old g a) c.args.request (asks g a) (both g a).0 (both g a).1 s.knows.member (seat_view c.taken-seat.result)
          s.knows.rests refl may;
    }

-- its signal is refused
pub invariant_of-self-in-Err : goal.invariant_of-self-in-Err
invariant_of-self-in-Err g c =
    let a = (goal.at.invariant_of-self-in-Err g c).After-taken-seat in
    let w = seat_view c.next-seat.result.0 in
    let terms = phaser_terms c.args.phaser.now in
    closed g.K.SignalRule.allows c.args.phaser.now.locked c.self.inside.number c.self.inside.entry c.next-seat.result.0 (record {
      here = c.next-seat.ensures.seat;
      knows = refused_seat g.A.Accumulate.operation g.K.SignalRule.allows (phaser_terms c.args.phaser.now) (old g a) c.args.request (asks g a) (both g a).0 (both g a).1 (there g a).seat.knows.member
          c.in-Err.refused w (subst (λ r. HasEnded g.A.Accumulate.operation terms.limits (g.K.SignalRule.allows terms.rule) (ask_of c.args.request) (old g a).seen r w) c.in-Err.is
          (subst (λ o. IfSome o (λ r. HasEnded g.A.Accumulate.operation terms.limits (g.K.SignalRule.allows terms.rule) (ask_of c.args.request) (old g a).seen r w)) c.in-Some.is c.next-seat.ensures.ended));
    })

pub returns-in-Err-clause-call : goal.returns-in-Err-clause-call
returns-in-Err-clause-call g c =
    let a = (goal.at.returns-in-Err-clause-call g c).After-taken-seat in
    let w = seat_view c.next-seat.result.0 in
    let terms = phaser_terms c.args.phaser.now in
    let new : Reg g a = reg_state (Some c.next-seat.result.0) c.self.inside.number c.self.inside.entry c.self.inside.pending in
    subst (λ (r : Reg g a). IsCall {X = Next} g.K.SignalRule.allows terms NoTask entry_after_next
    (GoesOrRefuses g.A.Accumulate.operation terms.limits None r new.seen (Err c.in-Err.refused)) r new (Err c.in-Err.refused)) (there g a).is
    (refused_call g.A.Accumulate.operation g.K.SignalRule.allows (phaser_terms c.args.phaser.now) (old g a) c.args.request (asks g a) (both g a).0 (both g a).1 (there g a).seat.knows.member
    c.in-Err.refused w (subst (λ r. HasEnded g.A.Accumulate.operation terms.limits (g.K.SignalRule.allows terms.rule) (ask_of c.args.request) (old g a).seen r w) c.in-Err.is
    (subst (λ o. IfSome o (λ r. HasEnded g.A.Accumulate.operation terms.limits (g.K.SignalRule.allows terms.rule) (ask_of c.args.request) (old g a).seen r w)) c.in-Some.is c.next-seat.ensures.ended)) new (c.next-seat.ensures.seat ∙ sym (there g a).seat.here) refl refl refl)

-- its signal and its wait are made
pub invariant_of-self-2 : goal.invariant_of-self-2
invariant_of-self-2 g c =
    let a = (goal.at.invariant_of-self-2 g c).After-taken-seat in
    let w = seat_view c.next-seat.result.0 in
    let terms = phaser_terms c.args.phaser.now in
    let next = c.args.request.phase + 1 in
    closed g.K.SignalRule.allows c.args.phaser.now.locked c.self.inside.number (record c.self.inside.entry { signal_phase = next; wait_phase = next })
    c.next-seat.result.0 (record {
      here = c.next-seat.ensures.seat;
      knows = answered_seat g.A.Accumulate.operation g.K.SignalRule.allows (phaser_terms c.args.phaser.now) (old g a) c.args.request (asks g a) (both g a).0 (both g a).1 (there g a).seat.knows.member
          c.in-Ok.outcome w (subst (λ r. HasEnded g.A.Accumulate.operation terms.limits (g.K.SignalRule.allows terms.rule) (ask_of c.args.request) (old g a).seen r w) c.in-Ok.is
          (subst (λ o. IfSome o (λ r. HasEnded g.A.Accumulate.operation terms.limits (g.K.SignalRule.allows terms.rule) (ask_of c.args.request) (old g a).seen r w)) c.in-Some.is c.next-seat.ensures.ended));
    })

pub returns-clause-call : goal.returns-clause-call
returns-clause-call g c =
    let a = (goal.at.returns-clause-call g c).After-taken-seat in
    let w = seat_view c.next-seat.result.0 in
    let terms = phaser_terms c.args.phaser.now in
    let phase = c.args.request.phase in
    let new : Reg g a = reg_state (Some c.next-seat.result.0) c.self.inside.number
    (record c.self.inside.entry { signal_phase = phase + 1; wait_phase = phase + 1 }) c.new-self-inside.result in
    let next : Next = record { signalled = Some phase; got = Some (Value phase c.in-Ok.outcome) } in
    subst (λ (r : Reg g a). IsCall g.K.SignalRule.allows terms NoTask entry_after_next
    (GoesOrRefuses g.A.Accumulate.operation terms.limits None r new.seen (Ok next)) r new (Ok next)) (there g a).is
    (answered_call g.A.Accumulate.operation g.K.SignalRule.allows (phaser_terms c.args.phaser.now) (old g a) c.args.request (asks g a) (both g a).0 (both g a).1 (there g a).seat.knows.member
    c.in-Ok.outcome w (subst (λ r. HasEnded g.A.Accumulate.operation terms.limits (g.K.SignalRule.allows terms.rule) (ask_of c.args.request) (old g a).seen r w) c.in-Ok.is
    (subst (λ o. IfSome o (λ r. HasEnded g.A.Accumulate.operation terms.limits (g.K.SignalRule.allows terms.rule) (ask_of c.args.request) (old g a).seen r w)) c.in-Some.is c.next-seat.ensures.ended)) new (c.next-seat.ensures.seat ∙ sym (there g a).seat.here) refl refl refl)

-- its lane is not its own: it came back as it was
module _ (g : Over) (c : In_default g) where
  same_view' : seat_view c.next-seat.result.0 ≡ seat_view c.taken-seat.result
  same_view' = subst (λ o. IfNone o (seat_view c.next-seat.result.0 ≡ seat_view c.taken-seat.result)) c.in_default.is c.next-seat.ensures.none

pub invariant_of-self : goal.invariant_of-self
invariant_of-self g c =
    let at = goal.at.invariant_of-self g c in
    let a = at.After-taken-seat in
    closed g.K.SignalRule.allows c.args.phaser.now.locked c.self.inside.number c.self.inside.entry c.next-seat.result.0 (record {
      here = c.next-seat.ensures.seat;
      knows = subst (λ v. IsSeatOfTask g.K.SignalRule.allows (phaser_terms c.args.phaser.now) c.self.inside.number c.self.inside.entry v)
          (sym (same_view' g at.In_default)) (there g a).seat.knows;
    })

pub returns-in_default-clause-none : goal.returns-in_default-clause-none
returns-in_default-clause-none g c =
    let at = goal.at.returns-in_default-clause-none g c in
    let a = at.After-taken-seat in
    same_place g.K.SignalRule.allows c.args.phaser.now.locked c.self.inside.number c.self.inside.entry c.self.inside.pending c.taken-seat.result c.next-seat.result.0
    (c.next-seat.ensures.seat ∙ sym (there g a).seat.here) (same_view' g at.In_default) ∙ (there g a).is

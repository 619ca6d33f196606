use Rattle.std.proofs.Common.{None, ◌≡◌, Some, refl, subst, ap, ◌∙◌}
use Rattle.std.specs.Prelude.{IfSome, IfNone, Ok}
use Rattle.turn_lock.specs.Seats.{seat_view}
use Rattle.phase_shared.specs.Phasers.{History, Outcome}
use Rattle.phase_shared.specs.declared.rule.Terms.{Terms}
use Rattle.phase_shared.specs.LockedPhasers.{locked_terms}
use Rattle.phase_shared.specs.Regs.{RegState}
use Rattle.phase_history.specs.declared.got.Got.TheVariants.{Value}
use Rattle.phase_shared.specs.Asked.{HasGone}
use Rattle.phase_shared.specs.Servings.{ask_of, IsAsking, HasAnswer}
use Rattle.phase_shared.specs.Views.{known_of}
use Rattle.phase_shared.proofs.AskedOpening.{OpenedAsk, opened_ask, closed_ask, same_ask, gone_reg, gone_call}
use Rattle.phase_shared.proofs.asked.Asked.look.Given.{Over}
use Rattle.phase_shared.proofs.asked.Asked.look.Goals.{After-look-seat}
use Rattle.phase_shared.proofs.asked.Asked.look.Goals as goal

pub look-seat-requires : goal.look-seat-requires
look-seat-requires g c =
    let i = c.self.inside in
    let o = opened_ask g.A.Accumulate.operation g.K.SignalRule.allows c.args.phaser.now.locked i.entry
    i.pending i.request i.seat c.self.invariant (ap (λ r. r.at) c.self.view_is ∙ c.requires.at) in
    record {
      seat = o.here;
      call = record { place_is = refl; terms_is = refl; ask_is = refl };
      asks = o.asks;
    }

-- the parts that it was taken apart into, and what the call of the seat told
module _ (g : Over) (c : After-look-seat g) where
  abbrev named : Terms g.row.K.Denot
  named = locked_terms c.args.phaser.now.locked

  abbrev asked : History
  asked = (known_of (seat_view c.self.inside.seat)).seen

  there : OpenedAsk g.A.Accumulate.operation g.K.SignalRule.allows c.args.phaser.now.locked
      c.self.inside.entry c.self.inside.pending c.self.inside.request c.self.inside.seat
  there = opened_ask g.A.Accumulate.operation g.K.SignalRule.allows c.args.phaser.now.locked
      c.self.inside.entry c.self.inside.pending c.self.inside.request c.self.inside.seat
      c.self.invariant (ap (λ r. r.at) c.self.view_is ∙ c.requires.at)

  -- it asks still
  still : c.look-seat.result.1 ≡ None
      → IsAsking (ask_of c.self.inside.request) asked (seat_view c.look-seat.result.0)
  still is = subst (λ x. IfNone x (IsAsking (ask_of c.self.inside.request) asked
      (seat_view c.look-seat.result.0))) is c.look-seat.ensures.asks

  abbrev Answered : Outcome → Type 0
  Answered it = HasAnswer g.A.Accumulate.operation named.limits (g.K.SignalRule.allows named.rule)
      (ask_of c.self.inside.request) asked it (seat_view c.look-seat.result.0)

  -- or this came of it
  came : (it : Outcome) → c.look-seat.result.1 ≡ Some it → Answered it
  came it is = subst (λ x. IfSome x Answered) is c.look-seat.ensures.answered

-- it asks still
pub invariant_of-asked : goal.invariant_of-asked
invariant_of-asked g c =
    let a = (goal.at.invariant_of-asked g c).After-look-seat in
    closed_ask _ _ _ _ _ _ _ c.look-seat.result.0 (there g a) c.look-seat.ensures.seat
    (still g a c.in_default.is)

pub returns-in_default-clause-err : goal.returns-in_default-clause-err
returns-in_default-clause-err g c =
    let a = (goal.at.returns-in_default-clause-err g c).After-look-seat in
    same_ask _ _ _ _ _ _ _ c.look-seat.result.0 (there g a) c.look-seat.ensures.seat (still g a c.in_default.is)
    ∙ c.self.view_is

-- its next phase was made
pub gone-reg-requires : goal.gone-reg-requires
gone-reg-requires g c =
    let a = (goal.at.gone-reg-requires g c).After-look-seat in
    gone_reg _ _ _ _ _ _ _ c.look-seat.result.0 (there g a) c.look-seat.ensures.seat c.in-Some.outcome
    (came g a _ c.in-Some.is)

pub returns-clause-ok : goal.returns-clause-ok
returns-clause-ok g c =
    let a = (goal.at.returns-clause-ok g c).After-look-seat in
    let i = c.self.inside in
    let made = c.gone-reg.ensures in
    let next : c.next-next.result ≡ record { signalled = Some i.request.phase; got = Some (Value i.request.phase c.in-Some.outcome) } =
    λ j. record { signalled = c.next-next.ensures.signalled j; got = c.next-next.ensures.got j } in
    subst (λ (self : RegState g.row.A.Denot g.row.K.Denot).
    HasGone g.A.Accumulate.operation g.K.SignalRule.allows (named g a) self c.gone-reg.result (Ok c.next-next.result)) c.self.view_is
    (rw (next, made.1) (gone_call _ _ _ _ _ _ _ c.look-seat.result.0 (there g a) c.look-seat.ensures.seat c.in-Some.outcome
    (came g a _ c.in-Some.is) made.0 made.2 made.3))

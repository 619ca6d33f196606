use Rattle.std.proofs.Common.{◌≡◌, Some, None, refl, subst, ap, ◌∙◌}
use Rattle.std.specs.Prelude.{Option, Result, IfSome, IfNone, Ok, Err}
use Rattle.turn_lock.specs.Seats.{seat_view}
use Rattle.phase_history.specs.declared.got.Got.TheVariants.{Value}
use Rattle.phase_shared.specs.Phasers.{History, Outcome, SignalRefusal}
use Rattle.phase_shared.specs.declared.rule.Terms.{Terms}
use Rattle.phase_shared.specs.LockedPhasers.{locked_terms}
use Rattle.phase_shared.specs.Regs.{RegState}
use Rattle.phase_shared.specs.Views.{known_of}
use Rattle.phase_shared.specs.Asked.{HasTakenBack}
use Rattle.phase_shared.specs.Servings.{ask_of, IsAsking, HasRested}
use Rattle.phase_shared.proofs.AskedOpening.{OpenedAsk, opened_ask, closed_ask, same_ask, gone_reg, gone_back, refused_reg, refused_rests, back_reg, back_gone}
use Rattle.phase_shared.proofs.asked.Asked.take_back.Given.{Over}
use Rattle.phase_shared.proofs.asked.Asked.take_back.Goals.{After-take_back-seat}
use Rattle.phase_shared.proofs.asked.Asked.take_back.Goals as goal

pub take_back-seat-requires : goal.take_back-seat-requires
take_back-seat-requires g c =
    let i = c.self.inside in
    let o = opened_ask g.A.Accumulate.operation g.K.SignalRule.allows c.args.phaser.now.locked i.entry
    i.pending i.request i.seat c.self.invariant (ap (λ r. r.at) c.self.view_is ∙ c.requires.at) in
    record {
      seat = o.here;
      call = record { place_is = refl; terms_is = refl; ask_is = refl };
      asks = o.asks;
    }

-- the parts that it was taken apart into, and what the call of the seat told
module _ (g : Over) (c : After-take_back-seat g) where
  abbrev named : Terms g.row.K.Denot
  named = locked_terms c.args.phaser.now.locked

  abbrev asked : History
  asked = (known_of (seat_view c.self.inside.seat)).seen

  there : OpenedAsk g.A.Accumulate.operation g.K.SignalRule.allows c.args.phaser.now.locked
      c.self.inside.entry c.self.inside.pending c.self.inside.request c.self.inside.seat
  there = opened_ask g.A.Accumulate.operation g.K.SignalRule.allows c.args.phaser.now.locked
      c.self.inside.entry c.self.inside.pending c.self.inside.request c.self.inside.seat
      c.self.invariant (ap (λ r. r.at) c.self.view_is ∙ c.requires.at)

  -- it asks still
  still : c.take_back-seat.result.1 ≡ None
      → IsAsking (ask_of c.self.inside.request) asked (seat_view c.take_back-seat.result.0)
  still is = subst (λ x. IfNone x (IsAsking (ask_of c.self.inside.request) asked
      (seat_view c.take_back-seat.result.0))) is c.take_back-seat.ensures.asks

  abbrev Rested : Result (Option Outcome) SignalRefusal → Type 0
  Rested it = HasRested g.A.Accumulate.operation named.limits (g.K.SignalRule.allows named.rule)
      (ask_of c.self.inside.request) asked it (seat_view c.take_back-seat.result.0)

  -- or this came of it
  came : (it : Result (Option Outcome) SignalRefusal) → c.take_back-seat.result.1 ≡ Some it → Rested it
  came it is = subst (λ x. IfSome x Rested) is c.take_back-seat.ensures.back

-- it asks still
pub invariant_of-asked : goal.invariant_of-asked
invariant_of-asked g c =
    let a = (goal.at.invariant_of-asked g c).After-take_back-seat in
    closed_ask _ _ _ _ _ _ _ c.take_back-seat.result.0 (there g a) c.take_back-seat.ensures.seat
    (still g a c.in_default.is)

pub returns-in_default-clause-err : goal.returns-in_default-clause-err
returns-in_default-clause-err g c =
    let a = (goal.at.returns-in_default-clause-err g c).After-take_back-seat in
    same_ask _ _ _ _ _ _ _ c.take_back-seat.result.0 (there g a) c.take_back-seat.ensures.seat (still g a c.in_default.is)
    ∙ c.self.view_is

-- its signal is refused
pub rested-back-requires : goal.rested-back-requires
rested-back-requires g c =
    let a = (goal.at.rested-back-requires g c).After-take_back-seat in
    let it = came g a _ (c.in-Some.is ∙ ap Some c.in-Err.is) in
    refused_reg _ _ _ _ _ _ _ c.take_back-seat.result.0 (there g a) c.take_back-seat.ensures.seat c.in-Err.refusal it

pub returns-in-Err-clause-ok : goal.returns-in-Err-clause-ok
returns-in-Err-clause-ok g c =
    let a = (goal.at.returns-in-Err-clause-ok g c).After-take_back-seat in
    let it = came g a _ (c.in-Some.is ∙ ap Some c.in-Err.is) in
    subst (λ (self : RegState g.row.A.Denot g.row.K.Denot).
    HasTakenBack g.A.Accumulate.operation g.K.SignalRule.allows (named g a) self c.rested-back.result (Err c.in-Err.refusal)) c.self.view_is
    (rw c.rested-back.ensures (refused_rests _ _ _ _ _ _ _ c.take_back-seat.result.0 (there g a) c.take_back-seat.ensures.seat c.in-Err.refusal it))

-- its signal alone is made
pub between-signalled-requires : goal.between-signalled-requires
between-signalled-requires g c =
    let a = (goal.at.between-signalled-requires g c).After-take_back-seat in
    let it = came g a _ (c.in-Some.is ∙ ap Some (c.in-Ok.is ∙ ap Ok c.in_default-made.is)) in
    back_reg _ _ _ _ _ _ _ c.take_back-seat.result.0 (there g a) c.take_back-seat.ensures.seat it

pub returns-in_default-made-clause-ok : goal.returns-in_default-made-clause-ok
returns-in_default-made-clause-ok g c =
    let a = (goal.at.returns-in_default-made-clause-ok g c).After-take_back-seat in
    let i = c.self.inside in
    let it = came g a _ (c.in-Some.is ∙ ap Some (c.in-Ok.is ∙ ap Ok c.in_default-made.is)) in
    let made = c.between-signalled.ensures in
    subst (λ (self : RegState g.row.A.Denot g.row.K.Denot).
    HasTakenBack g.A.Accumulate.operation g.K.SignalRule.allows (named g a) self c.between-signalled.result (Ok (i.request.phase, None))) c.self.view_is
    (rw made.1 (back_gone _ _ _ _ _ _ _ c.take_back-seat.result.0 (there g a) c.take_back-seat.ensures.seat it made.0 made.2 made.3))

-- its next phase was made
pub gone-reg-requires : goal.gone-reg-requires
gone-reg-requires g c =
    let a = (goal.at.gone-reg-requires g c).After-take_back-seat in
    let it = came g a _ (c.in-Some.is ∙ ap Some (c.in-Ok.is ∙ ap Ok c.in-Some-made.is)) in
    gone_reg _ _ _ _ _ _ _ c.take_back-seat.result.0 (there g a) c.take_back-seat.ensures.seat c.in-Some-made.outcome it

pub returns-clause-ok : goal.returns-clause-ok
returns-clause-ok g c =
    let a = (goal.at.returns-clause-ok g c).After-take_back-seat in
    let i = c.self.inside in
    let it = came g a _ (c.in-Some.is ∙ ap Some (c.in-Ok.is ∙ ap Ok c.in-Some-made.is)) in
    let made = c.gone-reg.ensures in
    subst (λ (self : RegState g.row.A.Denot g.row.K.Denot).
    HasTakenBack g.A.Accumulate.operation g.K.SignalRule.allows (named g a) self c.gone-reg.result (Ok (i.request.phase, Some (Value i.request.phase c.in-Some-made.outcome)))) c.self.view_is
    (rw made.1 (gone_back _ _ _ _ _ _ _ c.take_back-seat.result.0 (there g a) c.take_back-seat.ensures.seat c.in-Some-made.outcome it made.0 made.2 made.3))

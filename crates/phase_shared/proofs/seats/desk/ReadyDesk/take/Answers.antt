use Rattle.std.proofs.Common.{sym, subst}
use Rattle.turn_lock.specs.Seats.{seat_number, seat_view, turn_value, turn_view}
use Rattle.phase_shared.specs.Asks.{Ask}
use Rattle.phase_shared.specs.LockedPhasers.{locked_terms}
use Rattle.phase_shared.specs.Servings.{ask_of, MayAskOn, MayAsk, MayWait, Starting}
use Rattle.phase_shared.specs.Views.{known_of}
use Rattle.phase_shared.specs.declared.seats.view.View.{View}
use Rattle.phase_shared.proofs.AskCalls.{takes_ready}
use Rattle.phase_shared.proofs.AskNexts.{starting}
use Rattle.phase_shared.proofs.CallSteps.{at_call, at_phaser}
use Rattle.phase_shared.specs.Goods.{allows_or}
use Rattle.phase_shared.proofs.seats.desk.ReadyDesk.take.Goals as goal

pub try_take-requires-clause-rule : goal.try_take-requires-clause-rule
try_take-requires-clause-rule g c =
    let seat = c.self.inside.desk.seat in
    let at = locked_terms c.self.inside.desk.of.phaser.now in
    let v = seat_view seat in
    takes_ready g.A.Accumulate.operation at.limits (g.K.SignalRule.allows at.rule) (seat_number seat) (known_of v).seen g.S.Since.ask.task g.S.Since.ask.lane v c.self.invariant.may.rests

pub invariant_of-result : goal.invariant_of-result
invariant_of-result g c =
    let of = c.self.inside.desk.of in
    let v = seat_view c.self.inside.desk.seat in
    let i = c.self.invariant in
    let at = locked_terms of.phaser.now in
    let may = at_phaser g.K.SignalRule.allows at g.S.Since.terms of.terms_is (λ limits allows. MayAsk limits allows (ask_of of.request) v)
    (subst (λ (a : Ask). MayAsk g.S.Since.terms.limits (allows_or g.K.SignalRule.allows g.S.Since.terms.rule) a v) of.ask_is i.may) in
    let x = turn_value c.in-Ok.turn in
    let w = turn_view c.in-Ok.turn in
    let waits = subst (λ (a : Ask). MayWait g.S.Since.terms.limits (allows_or g.K.SignalRule.allows g.S.Since.terms.rule) a g.S.Since.seen) of.ask_is i.waits in (
      subst (λ (a : Ask). Starting g.A.Accumulate.operation g.S.Since.terms.limits (allows_or g.K.SignalRule.allows g.S.Since.terms.rule) a g.S.Since.seen w x) (sym of.ask_is)
          (at_call g.K.SignalRule.allows at g.S.Since.terms of.terms_is (λ limits allows. Starting g.A.Accumulate.operation limits allows (ask_of of.request) g.S.Since.seen w x)
          (starting g.A.Accumulate.operation g.K.SignalRule.allows at of.request g.S.Since.seen v x w may i.seen_is waits.waits c.in-Ok.ensures.rule)),
      i.waits,
    )

-- the seat came back as it was
pub invariant_of-result-in-Err : goal.invariant_of-result-in-Err
invariant_of-result-in-Err g c =
    subst (λ (v : View). MayAskOn g.S.Since.terms.limits (allows_or g.K.SignalRule.allows g.S.Since.terms.rule) g.S.Since.ask g.S.Since.seen v)
    (sym c.in-Err.ensures.err.2) c.self.invariant

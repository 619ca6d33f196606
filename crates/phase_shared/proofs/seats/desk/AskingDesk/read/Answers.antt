use Rattle.std.proofs.Common.{◌≡◌, ◌∷◌, [], ap, ◌∙◌, arith}
use Rattle.turn_lock.specs.Seats.{seat_number, seat_view}
use Rattle.phase_shared.specs.LockedPhasers.{locked_terms}
use Rattle.phase_shared.specs.Servings.{HasAnswer}
use Rattle.phase_shared.specs.Views.{knowledge}
use Rattle.phase_shared.proofs.AskCalls.{looks_ask, asks_still, was_answered, is_read, has_answer}
use Rattle.phase_shared.proofs.CallSteps.{at_call}
use Rattle.phase_shared.proofs.seats.desk.AskingDesk.read.Goals.{then-told-eq0-via-then-told-eq0, then-told-eq0-via-else-told-eq0+then-told-phase}
use Rattle.phase_shared.proofs.seats.desk.AskingDesk.read.Goals as goal

pub look-seat-requires-clause-rule : goal.look-seat-requires-clause-rule
look-seat-requires-clause-rule g c =
    let seat = c.self.inside.desk.seat in
    let at = locked_terms c.self.inside.desk.of.phaser.now in
    looks_ask g.A.Accumulate.operation at.limits (g.K.SignalRule.allows at.rule) (seat_number seat) g.S.Since.ask g.S.Since.seen (seat_view seat) c.self.invariant.0

-- it is not answered
pub invariant_of-result : goal.invariant_of-result
invariant_of-result g c =
    let old = c.self.inside.desk.seat in
    let at = locked_terms c.self.inside.desk.of.phaser.now in
    let told = c.look-seat.result.1 in
    let phase : g.S.Since.ask.phase ≡ c.self.inside.desk.of.request.phase = ap (λ a. a.phase) c.self.inside.desk.of.ask_is in (
      asks_still g.A.Accumulate.operation at.limits (g.K.SignalRule.allows at.rule) g.S.Since.ask g.S.Since.seen (seat_view old) told (seat_view c.look-seat.result.0) c.self.invariant.0 c.look-seat.ensures.rule
          (λ yes'. elim c.then-told-eq0.branch [
            | then-told-eq0-via-then-told-eq0 w ↦ let even = w.if-told-eq0.true in let odd = yes'.0 in absurd (omega arith)
            | then-told-eq0-via-else-told-eq0+then-told-phase w ↦ let low = w.if-told-phase.true in let more = yes'.1 in absurd (omega arith)
          ])
          ∙ c.self.invariant.0,
      c.self.invariant.1,
    )

pub read_answer-desk-requires : goal.read_answer-desk-requires
read_answer-desk-requires g c =
    let old = c.self.inside.desk.seat in
    let at = locked_terms c.self.inside.desk.of.phaser.now in
    let told = c.look-seat.result.1 in
    let w = seat_view c.look-seat.result.0 in
    let phase : g.S.Since.ask.phase ≡ c.self.inside.desk.of.request.phase = ap (λ a. a.phase) c.self.inside.desk.of.ask_is in
    record {
      reads = is_read g.A.Accumulate.operation at.limits (g.K.SignalRule.allows at.rule) g.S.Since.ask (knowledge g.S.Since.seen (g.S.Since.ask.task ∷ [])) w
          (was_answered g.A.Accumulate.operation at.limits (g.K.SignalRule.allows at.rule) g.S.Since.ask g.S.Since.seen (seat_view old) told w
          c.self.invariant.0 c.look-seat.ensures.rule (omega (arith, c.if-told-eq0.false), omega (arith, phase, c.if-told-phase.false)));
    }

pub returns : goal.returns
returns g c =
    let old = c.self.inside.desk.seat in
    let at = locked_terms c.self.inside.desk.of.phaser.now in
    let told = c.look-seat.result.1 in
    let w = seat_view c.look-seat.result.0 in
    let phase : g.S.Since.ask.phase ≡ c.self.inside.desk.of.request.phase = ap (λ a. a.phase) c.self.inside.desk.of.ask_is in
    let x = seat_view c.read_answer-desk.result.0.seat in
    record {
      ok = at_call g.K.SignalRule.allows at g.S.Since.terms c.self.inside.desk.of.terms_is
          (λ limits allows. HasAnswer g.A.Accumulate.operation limits allows g.S.Since.ask g.S.Since.seen c.read_answer-desk.result.1 x)
          (has_answer g.A.Accumulate.operation at.limits (g.K.SignalRule.allows at.rule) g.S.Since.ask g.S.Since.seen w x c.read_answer-desk.result.1
          (was_answered g.A.Accumulate.operation at.limits (g.K.SignalRule.allows at.rule) g.S.Since.ask g.S.Since.seen (seat_view old) told w
          c.self.invariant.0 c.look-seat.ensures.rule (omega (arith, c.if-told-eq0.false), omega (arith, phase, c.if-told-phase.false)))
          c.read_answer-desk.ensures.answer);
    }

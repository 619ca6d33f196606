use Rattle.std.proofs.Common.{◌∷◌, []}
use Rattle.turn_lock.specs.Seats.{seat_number, seat_view, turn_value, turn_view}
use Rattle.phase_shared.specs.LockedPhasers.{locked_terms}
use Rattle.phase_shared.specs.Rule.{StandsWithin}
use Rattle.phase_shared.specs.Tells.{TookAsked}
use Rattle.phase_shared.specs.Views.{knowledge}
use Rattle.phase_shared.proofs.AskCalls.{takes_ask}
use Rattle.phase_shared.proofs.CallSteps.{at_call}
use Rattle.phase_shared.proofs.seats.desk.AskingDesk.take.Goals as goal

pub try_take-requires-clause-rule : goal.try_take-requires-clause-rule
try_take-requires-clause-rule g c =
    let seat = c.self.inside.desk.seat in
    let at = locked_terms c.self.inside.desk.of.phaser.now in
    takes_ask g.A.Accumulate.operation at.limits (g.K.SignalRule.allows at.rule) (seat_number seat) g.S.Since.ask g.S.Since.seen (seat_view seat) c.self.invariant.0

pub invariant_of-result : goal.invariant_of-result
invariant_of-result g c =
    let at = locked_terms c.self.inside.desk.of.phaser.now in
    let mine = knowledge g.S.Since.seen (g.S.Since.ask.task ∷ []) in (
      at_call g.K.SignalRule.allows at g.S.Since.terms c.self.inside.desk.of.terms_is
          (λ limits allows. TookAsked (g.A.Accumulate.operation).value limits allows (StandsWithin g.A.Accumulate.operation limits) mine g.S.Since.ask (turn_value c.in-Ok.turn) (turn_view c.in-Ok.turn))
          (c.in-Ok.ensures.rule mine g.S.Since.ask c.self.invariant.0),
      c.self.invariant.1,
    )

use Rattle.std.proofs.Common.{◌<◌, ℕ, false, refl, ap, sym, subst}
use Rattle.phase_history.specs.Histories.{done_of}
use Rattle.turn_lock.specs.Seats.{turn_view, turn_value}
use Rattle.phase_shared.proofs.ServingTurns.{same_turn, stays_open}
use Rattle.phase_shared.proofs.TurnParts.{serves_now}
use Rattle.phase_shared.specs.Goods.{allows_or}
use Rattle.phase_shared.proofs.seats.desk.OpenTurn.complete.Goals as goal

pub invariant_of-result : goal.invariant_of-result
invariant_of-result g c =
    let v = turn_view c.self.inside.on.turn in
    let x = turn_value c.self.inside.on.turn in
    let y = c.value_in.result.now in
    let o = c.self.invariant in
    let s = same_turn g.A.Accumulate.operation g.S.Since.terms.limits (allows_or g.K.SignalRule.allows g.S.Since.terms.rule) g.S.Since.ask g.S.Since.seen false 0 v v x y refl c.value_in.ensures.value o.serving in
    record {
      serving = serves_now g.A.Accumulate.operation g.S.Since.terms.limits (allows_or g.K.SignalRule.allows g.S.Since.terms.rule) g.S.Since.ask g.S.Since.seen v y s (λ h stands.
          subst (λ (n : ℕ). n < done_of h) (ap (λ a. a.phase) (sym c.self.inside.on.of.ask_is))
          (subst (λ (n : ℕ). c.self.inside.on.of.request.phase < n) (c.done-done.ensures h stands) c.if-done-phase.true));
      was_open = o.was_open;
      asks = o.asks;
    }

pub invariant_of-result-else-done-phase : goal.invariant_of-result-else-done-phase
invariant_of-result-else-done-phase g c =
    let v = turn_view c.self.inside.on.turn in
    let x = turn_value c.self.inside.on.turn in
    let y = c.value_in.result.now in
    let o = c.self.invariant in
    stays_open g.A.Accumulate.operation g.S.Since.terms.limits (allows_or g.K.SignalRule.allows g.S.Since.terms.rule) g.S.Since.ask g.S.Since.seen false v v x y refl o (same_turn g.A.Accumulate.operation g.S.Since.terms.limits (allows_or g.K.SignalRule.allows g.S.Since.terms.rule) g.S.Since.ask g.S.Since.seen false 0 v v x y refl c.value_in.ensures.value o.serving)

use Rattle.std.proofs.Common.{ℕ, ◌<◌, ◌≤◌, false, refl, ap, sym, subst}
use Rattle.turn_lock.specs.Seats.{turn_view, turn_value}
use Rattle.phase_shared.specs.Phasers.{done_of}
use Rattle.phase_shared.specs.Goods.{allows_or}
use Rattle.phase_shared.proofs.ServingTurns.{same_turn}
use Rattle.phase_shared.proofs.TurnParts.{serves_now}
use Rattle.phase_shared.proofs.seats.desk.OpenTurn.rest.Goals as goal

pub rest-requires-clause-serving : goal.rest-requires-clause-serving
rest-requires-clause-serving g c =
    let v = turn_view c.self.inside.on.turn in
    same_turn g.A.Accumulate.operation g.S.Since.terms.limits (allows_or g.K.SignalRule.allows g.S.Since.terms.rule) g.S.Since.ask g.S.Since.seen false 0 v v (turn_value c.self.inside.on.turn) c.value_in.result.now refl c.value_in.ensures.value c.self.invariant.serving

pub rest-requires-clause-low : goal.rest-requires-clause-low
rest-requires-clause-low g c h stands =
    subst (λ (n : ℕ). done_of h ≤ n) (ap (λ a. a.phase) (sym c.self.inside.on.of.ask_is))
    (subst (λ (n : ℕ). n ≤ c.self.inside.on.of.request.phase) (c.done-done.ensures h stands) c.if-done-phase.true)

pub invariant_of-full : goal.invariant_of-full
invariant_of-full g c =
    let v = turn_view c.self.inside.on.turn in
    let x = turn_value c.self.inside.on.turn in
    let y = c.value_in.result.now in
    let o = c.self.invariant in
    let s = same_turn g.A.Accumulate.operation g.S.Since.terms.limits (allows_or g.K.SignalRule.allows g.S.Since.terms.rule) g.S.Since.ask g.S.Since.seen false 0 v v x y refl c.value_in.ensures.value o.serving in
    record {
      serving = serves_now g.A.Accumulate.operation g.S.Since.terms.limits (allows_or g.K.SignalRule.allows g.S.Since.terms.rule) g.S.Since.ask g.S.Since.seen v y s (λ h stands.
          subst (λ (n : ℕ). n < done_of h) (ap (λ a. a.phase) (sym c.self.inside.on.of.ask_is))
          (subst (λ (n : ℕ). c.self.inside.on.of.request.phase < n) (c.done-done.ensures h stands) c.if-done-phase.false));
      was_open = o.was_open;
      asks = o.asks;
    }

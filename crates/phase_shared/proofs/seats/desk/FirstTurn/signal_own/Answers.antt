use Rattle.std.proofs.Common.{◌∷◌, [], None, ap, sym, subst, ◌∙◌}
use Rattle.turn_lock.specs.Seats.{turn_view, turn_value}
use Rattle.phase_history.specs.declared.event.Event.TheVariants.{Signalled}
use Rattle.phase_core.specs.Cores.{CoreState, StandsFor}
use Rattle.phase_shared.specs.Asks.{Ask}
use Rattle.phase_shared.specs.Rule.{StandsWithin}
use Rattle.phase_shared.specs.Servings.{ask_of, Starting}
use Rattle.phase_shared.proofs.TurnParts.{stands_first, signs, open_first, is_refused}
use Rattle.phase_shared.specs.Goods.{allows_or}
use Rattle.phase_shared.proofs.seats.desk.FirstTurn.signal_own.Goals as goal

pub invariant_of-result : goal.invariant_of-result
invariant_of-result g c =
    let of = c.self.inside.on.of in
    let v = turn_view c.self.inside.on.turn in
    let x = turn_value c.self.inside.on.turn in
    let old = c.value_in-core.result.now in
    let s = c.self.invariant.0 in
    let value = c.value_in-core.ensures.value in
    let before : StandsWithin g.A.Accumulate.operation g.S.Since.terms.limits old s.turned.did.now = subst (λ (y : CoreState _). StandsWithin g.A.Accumulate.operation g.S.Since.terms.limits y s.turned.did.now) (sym value) (stands_first g.A.Accumulate.operation g.S.Since.terms.limits (allows_or g.K.SignalRule.allows g.S.Since.terms.rule) g.S.Since.ask g.S.Since.seen v x s) in
    record {
      serving = signs g.A.Accumulate.operation g.S.Since.terms.limits (allows_or g.K.SignalRule.allows g.S.Since.terms.rule) g.S.Since.ask g.S.Since.seen v x s c.signal.new.self (c.in-Ok.ensures.limits ∙ ap (λ (y : CoreState _). y.limits) value)
          (subst (λ (a : Ask). StandsFor g.A.Accumulate.operation c.signal.new.self (Signalled a.task (a.sends ∷ []) None ∷ s.turned.did.now)) (sym of.ask_is)
          (c.in-Ok.ensures.after s.turned.did.now (ask_of of.request).sends before.stands c.sends_of.ensures));
      was_open = open_first g.A.Accumulate.operation g.S.Since.terms.limits (allows_or g.K.SignalRule.allows g.S.Since.terms.rule) g.S.Since.ask g.S.Since.seen v x s;
      asks = c.self.invariant.1;
    }

-- a refused signal changed nothing
pub invariant_of-result-in-Err : goal.invariant_of-result-in-Err
invariant_of-result-in-Err g c =
    let of = c.self.inside.on.of in
    let v = turn_view c.self.inside.on.turn in
    let x = turn_value c.self.inside.on.turn in
    let s = c.self.invariant.0 in
    let value = c.value_in-core.ensures.value in
    let before : StandsWithin g.A.Accumulate.operation g.S.Since.terms.limits c.value_in-core.result.now s.turned.did.now =
    subst (λ (y : CoreState _). StandsWithin g.A.Accumulate.operation g.S.Since.terms.limits y s.turned.did.now) (sym value) (stands_first g.A.Accumulate.operation g.S.Since.terms.limits (allows_or g.K.SignalRule.allows g.S.Since.terms.rule) g.S.Since.ask g.S.Since.seen v x s) in (
      subst (λ (y : CoreState _). Starting g.A.Accumulate.operation g.S.Since.terms.limits (allows_or g.K.SignalRule.allows g.S.Since.terms.rule) g.S.Since.ask g.S.Since.seen v y) (sym (c.in-Err.ensures.err ∙ value)) s,
      is_refused g.A.Accumulate.operation g.S.Since.terms.limits (allows_or g.K.SignalRule.allows g.S.Since.terms.rule) g.S.Since.ask g.S.Since.seen v x s of.request of.ask_is c.value_in-core.result.now.limits c.in-Err.refused.0 before.limits_are
          (c.in-Err.ensures.refused s.turned.did.now (ask_of of.request).sends before.stands c.sends_of.ensures),
    )

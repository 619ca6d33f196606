use Rattle.std.proofs.Common.{◌≡◌, ◌≢◌, ◌+◌, false, ◌++◌, refl, sym, ap, subst, ◌∙◌, arith}
use Rattle.turn_lock.specs.Seats.{turn_view, turn_value}
use Rattle.phase_core.specs.Cores.{CoreState, StandsFor}
use Rattle.phase_shared.specs.Lanes.{sends_of}
use Rattle.phase_shared.specs.Servings.{Serving, ServingOpen, HasToSignal}
use Rattle.phase_shared.specs.Views.{known_of}
use Rattle.phase_shared.proofs.ServingReads.{HasRead, reads_more, owner_is}
use Rattle.phase_shared.proofs.ServingSteps.{signals_more}
use Rattle.phase_shared.proofs.ServingTurns.{reads_knows, same_turn, stays_open, is_other, is_else, is_holder, send_knows}
use Rattle.phase_shared.proofs.TurnParts.{was_open}
use Rattle.phase_shared.proofs.seats.desk.OpenTurn.signal_for.Given.{Over}
use Rattle.phase_shared.proofs.seats.desk.OpenTurn.signal_for.Goals.{After-read_lane-on, After-read_owner-on, After-read_send-on}
use Rattle.phase_shared.specs.Goods.{allows_or}
use Rattle.phase_shared.proofs.seats.desk.OpenTurn.signal_for.Goals as goal

-- the lane is another's
else' : (g : Over) (c : After-read_lane-on g) → c.args.lane ≢ g.S.Since.ask.lane
else' g c = is_else g.A.Accumulate.operation g.S.Since.terms.limits (allows_or g.K.SignalRule.allows g.S.Since.terms.rule) g.S.Since.ask g.S.Since.seen c.self.inside.on.of.request c.args.lane c.self.inside.on.of.ask_is c.if-lane-request.false

pub read_lane-on-requires-clause-other : goal.read_lane-on-requires-clause-other
read_lane-on-requires-clause-other g c =
    let turn = c.self.inside.on.turn in
    is_other g.A.Accumulate.operation g.S.Since.terms.limits (allows_or g.K.SignalRule.allows g.S.Since.terms.rule) g.S.Since.ask g.S.Since.seen false 0 c.args.lane (turn_view turn) (turn_value turn)
    (is_else g.A.Accumulate.operation g.S.Since.terms.limits (allows_or g.K.SignalRule.allows g.S.Since.terms.rule) g.S.Since.ask g.S.Since.seen c.self.inside.on.of.request c.args.lane c.self.inside.on.of.ask_is c.if-lane-request.false) c.self.invariant.serving

-- the lane was read
has_read : (g : Over) (c : After-read_lane-on g) → HasRead g.A.Accumulate.operation g.S.Since.terms.limits (allows_or g.K.SignalRule.allows g.S.Since.terms.rule) g.S.Since.ask g.S.Since.seen false 0 c.args.lane c.read_lane-on.result.1 (turn_view c.read_lane-on.result.0.turn)
    (turn_value c.self.inside.on.turn)
has_read g c =
    reads_more g.A.Accumulate.operation g.S.Since.terms.limits (allows_or g.K.SignalRule.allows g.S.Since.terms.rule) g.S.Since.ask g.S.Since.seen false 0 c.args.lane c.read_lane-on.result.1 (turn_view c.self.inside.on.turn) (turn_view c.read_lane-on.result.0.turn)
    (turn_value c.self.inside.on.turn) c.self.invariant.serving c.read_lane-on.ensures.lane (omega arith) (else' g c)

knew : (g : Over) (c : After-read_lane-on g) → known_of (turn_view c.read_lane-on.result.0.turn) ≡ known_of (turn_view c.self.inside.on.turn)
knew g c =
    reads_knows g.A.Accumulate.operation g.S.Since.terms.limits (allows_or g.K.SignalRule.allows g.S.Since.terms.rule) g.S.Since.ask g.S.Since.seen false 0 c.args.lane c.read_lane-on.result.1 (turn_view c.self.inside.on.turn) (turn_view c.read_lane-on.result.0.turn)
    (turn_value c.self.inside.on.turn) c.self.invariant.serving c.read_lane-on.ensures.lane

pub invariant_of-result-then-found-request : goal.invariant_of-result-then-found-request
invariant_of-result-then-found-request g c =
    let at = (goal.at.invariant_of-result-then-found-request g c).After-read_lane-on in
    let turn = c.read_lane-on.result.0.turn in
    stays_open g.A.Accumulate.operation g.S.Since.terms.limits (allows_or g.K.SignalRule.allows g.S.Since.terms.rule) g.S.Since.ask g.S.Since.seen false (turn_view c.self.inside.on.turn) (turn_view turn) (turn_value c.self.inside.on.turn) (turn_value turn) (knew g at) c.self.invariant
    (same_turn g.A.Accumulate.operation g.S.Since.terms.limits (allows_or g.K.SignalRule.allows g.S.Since.terms.rule) g.S.Since.ask g.S.Since.seen false 0 (turn_view turn) (turn_view turn) (turn_value c.self.inside.on.turn) (turn_value turn) refl c.read_lane-on.ensures.value
    (has_read g at).serving)

pub read_owner-on-requires-clause-holds : goal.read_owner-on-requires-clause-holds
read_owner-on-requires-clause-holds g c =
    is_holder g.A.Accumulate.operation g.S.Since.terms.limits (allows_or g.K.SignalRule.allows g.S.Since.terms.rule) g.S.Since.ask g.S.Since.seen false 0 (turn_view c.read_lane-on.result.0.turn) (turn_value c.self.inside.on.turn)
    (has_read g (goal.at.read_owner-on-requires-clause-holds g c).After-read_lane-on).serving

-- whose it is was read: nothing changed by that
owner_same : (g : Over) (c : After-read_owner-on g) (h : HasRead g.A.Accumulate.operation g.S.Since.terms.limits (allows_or g.K.SignalRule.allows g.S.Since.terms.rule) g.S.Since.ask g.S.Since.seen false 0 c.args.lane c.read_lane-on.result.1 (turn_view c.read_lane-on.result.0.turn)
    (turn_value c.self.inside.on.turn)) → turn_view c.read_owner-on.result.0.turn ≡ turn_view c.read_lane-on.result.0.turn
owner_same g c h =
    (owner_is g.A.Accumulate.operation g.S.Since.terms.limits (allows_or g.K.SignalRule.allows g.S.Since.terms.rule) g.S.Since.ask g.S.Since.seen false 0 c.args.lane c.read_owner-on.result.1 (turn_view c.read_lane-on.result.0.turn) (turn_view c.read_owner-on.result.0.turn)
    (turn_value c.self.inside.on.turn) h.serving c.read_owner-on.ensures.owner).0

serving_owner : (g : Over) (c : After-read_owner-on g) (h : HasRead g.A.Accumulate.operation g.S.Since.terms.limits (allows_or g.K.SignalRule.allows g.S.Since.terms.rule) g.S.Since.ask g.S.Since.seen false 0 c.args.lane c.read_lane-on.result.1 (turn_view c.read_lane-on.result.0.turn)
    (turn_value c.self.inside.on.turn)) → Serving g.A.Accumulate.operation g.S.Since.terms.limits (allows_or g.K.SignalRule.allows g.S.Since.terms.rule) g.S.Since.ask g.S.Since.seen false 0 (turn_view c.read_owner-on.result.0.turn) (turn_value c.self.inside.on.turn)
serving_owner g c h =
    same_turn g.A.Accumulate.operation g.S.Since.terms.limits (allows_or g.K.SignalRule.allows g.S.Since.terms.rule) g.S.Since.ask g.S.Since.seen false 0 (turn_view c.read_lane-on.result.0.turn) (turn_view c.read_owner-on.result.0.turn) (turn_value c.self.inside.on.turn) (turn_value c.self.inside.on.turn)
    (owner_same g c h) refl h.serving

pub read_send-on-requires-clause-holds : goal.read_send-on-requires-clause-holds
read_send-on-requires-clause-holds g c =
    let at = goal.at.read_send-on-requires-clause-holds g c in
    is_holder g.A.Accumulate.operation g.S.Since.terms.limits (allows_or g.K.SignalRule.allows g.S.Since.terms.rule) g.S.Since.ask g.S.Since.seen false 0 (turn_view c.read_owner-on.result.0.turn) (turn_value c.self.inside.on.turn)
    (serving_owner g at.After-read_owner-on (has_read g at.After-read_lane-on))

-- what is sent was read: nothing changed by that
module _ (g : Over) (c : After-read_send-on g) (h : HasRead g.A.Accumulate.operation g.S.Since.terms.limits (allows_or g.K.SignalRule.allows g.S.Since.terms.rule) g.S.Since.ask g.S.Since.seen false 0 c.args.lane c.read_lane-on.result.1
    (turn_view c.read_lane-on.result.0.turn) (turn_value c.self.inside.on.turn))
    (owner_is' : turn_view c.read_owner-on.result.0.turn ≡ turn_view c.read_lane-on.result.0.turn)
    (same : known_of (turn_view c.read_lane-on.result.0.turn) ≡ known_of (turn_view c.self.inside.on.turn)) where
  send_is : turn_view c.read_send-on.result.0.turn ≡ turn_view c.read_lane-on.result.0.turn
  send_is =
      send_knows g.A.Accumulate.operation g.S.Since.terms.limits (allows_or g.K.SignalRule.allows g.S.Since.terms.rule) g.S.Since.ask g.S.Since.seen false 0 c.args.lane c.read_send-on.result.1 (turn_view c.read_owner-on.result.0.turn) (turn_view c.read_send-on.result.0.turn)
      (turn_value c.self.inside.on.turn)
      (same_turn g.A.Accumulate.operation g.S.Since.terms.limits (allows_or g.K.SignalRule.allows g.S.Since.terms.rule) g.S.Since.ask g.S.Since.seen false 0 (turn_view c.read_lane-on.result.0.turn) (turn_view c.read_owner-on.result.0.turn) (turn_value c.self.inside.on.turn) (turn_value c.self.inside.on.turn)
      owner_is' refl h.serving)
      c.read_send-on.ensures.send ∙ owner_is'

  -- the turn goes on, where it serves
  goes_on : (y : CoreState _) → Serving g.A.Accumulate.operation g.S.Since.terms.limits (allows_or g.K.SignalRule.allows g.S.Since.terms.rule) g.S.Since.ask g.S.Since.seen false 0 (turn_view c.read_send-on.result.0.turn) y
      → ServingOpen g.A.Accumulate.operation g.S.Since.terms.limits (allows_or g.K.SignalRule.allows g.S.Since.terms.rule) g.S.Since.ask g.S.Since.seen false (turn_view c.read_send-on.result.0.turn) y
  goes_on y s =
      stays_open g.A.Accumulate.operation g.S.Since.terms.limits (allows_or g.K.SignalRule.allows g.S.Since.terms.rule) g.S.Since.ask g.S.Since.seen false (turn_view c.self.inside.on.turn) (turn_view c.read_send-on.result.0.turn) (turn_value c.self.inside.on.turn) y
      (ap known_of send_is ∙ same) c.self.invariant s

  -- the turn as it was read
  as_read : (y : CoreState _) → y ≡ turn_value c.self.inside.on.turn → ServingOpen g.A.Accumulate.operation g.S.Since.terms.limits (allows_or g.K.SignalRule.allows g.S.Since.terms.rule) g.S.Since.ask g.S.Since.seen false (turn_view c.read_send-on.result.0.turn) y
  as_read y is =
      goes_on y (same_turn g.A.Accumulate.operation g.S.Since.terms.limits (allows_or g.K.SignalRule.allows g.S.Since.terms.rule) g.S.Since.ask g.S.Since.seen false 0 (turn_view c.read_lane-on.result.0.turn) (turn_view c.read_send-on.result.0.turn) (turn_value c.self.inside.on.turn) y
      send_is is h.serving)

pub invariant_of-result-then-not-is_before : goal.invariant_of-result-then-not-is_before
invariant_of-result-then-not-is_before g c =
    let at = goal.at.invariant_of-result-then-not-is_before g c in
    let h = has_read g at.After-read_lane-on in
    as_read g at.After-read_send-on h (owner_same g at.After-read_owner-on h) (knew g at.After-read_lane-on) c.value_in-core.result.now
    (c.value_in-core.ensures.value ∙ c.read_send-on.ensures.value ∙ c.read_owner-on.ensures.value ∙ c.read_lane-on.ensures.value)

-- a refused signal changed nothing
pub invariant_of-result-in-Err : goal.invariant_of-result-in-Err
invariant_of-result-in-Err g c =
    let at = goal.at.invariant_of-result-in-Err g c in
    let h = has_read g at.After-read_lane-on in
    as_read g at.After-read_send-on h (owner_same g at.After-read_owner-on h) (knew g at.After-read_lane-on) c.signal.new.self
    (c.in-Err.ensures.err ∙ c.value_in-core.ensures.value ∙ c.read_send-on.ensures.value ∙ c.read_owner-on.ensures.value ∙ c.read_lane-on.ensures.value)

pub invariant_of-result-in-Ok : goal.invariant_of-result-in-Ok
invariant_of-result-in-Ok g c =
    let at = goal.at.invariant_of-result-in-Ok g c in
    let x = turn_value c.self.inside.on.turn in
    let value = c.value_in-core.ensures.value ∙ c.read_send-on.ensures.value ∙ c.read_owner-on.ensures.value ∙ c.read_lane-on.ensures.value in
    let h = has_read g at.After-read_lane-on in
    let same = owner_same g at.After-read_owner-on h in
    let asked = c.self.inside.on.of.ask_is in
    let task = c.saturating_sub-task.result in
    let before : HasToSignal x.members task g.S.Since.ask.phase =
    subst (λ (y : CoreState _). HasToSignal y.members task g.S.Since.ask.phase) value
    (subst (λ (n : _). HasToSignal c.value_in-core.result.now.members task n) (ap (λ a. a.phase) (sym asked)) (c.is_before.ensures c.if-not-is_before.false)) in
    goes_on g at.After-read_send-on h same (knew g at.After-read_lane-on) c.signal.new.self
    (signals_more g.A.Accumulate.operation g.S.Since.terms.limits (allows_or g.K.SignalRule.allows g.S.Since.terms.rule) g.S.Since.ask g.S.Since.seen c.args.lane task c.read_owner-on.result.1 c.read_lane-on.result.1 c.read_send-on.result.1 (turn_view c.read_lane-on.result.0.turn)
    (turn_view c.read_owner-on.result.0.turn) (turn_view c.read_send-on.result.0.turn) x c.signal.new.self h (c.if-found-request.false ∙ ap (λ a. a.phase + 1) (sym asked))
    (was_open g.A.Accumulate.operation g.S.Since.terms.limits (allows_or g.K.SignalRule.allows g.S.Since.terms.rule) g.S.Since.ask false 0 (turn_view c.self.inside.on.turn) (turn_view c.read_lane-on.result.0.turn) x h.serving.turned (knew g at.After-read_lane-on) c.self.invariant.was_open)
    c.read_owner-on.ensures.owner (λ m is. let e = c.saturating_sub-task.ensures in omega arith)
    c.read_send-on.ensures.send before
    (c.signal.ensures.limits ∙ ap (λ (y : CoreState _). y.limits) value)
    (c.in-Ok.ensures.after (h.serving.turned.did.later ++ h.serving.turned.did.now) (sends_of c.read_send-on.result.1)
    (subst (λ (y : CoreState _). StandsFor g.A.Accumulate.operation y (h.serving.turned.did.later ++ h.serving.turned.did.now)) (sym value) h.serving.turned.stands.stands) c.sends_of.ensures))

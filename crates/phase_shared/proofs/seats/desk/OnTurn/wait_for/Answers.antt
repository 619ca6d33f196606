use Rattle.std.proofs.Common.{◌≡◌, ◌≤◌, ◌+◌, ℕ, true, ◌++◌, refl, sym, ap, subst, ◌∙◌, arith}
use Rattle.std.specs.Prelude.{Result, Ok}
use Rattle.turn_lock.specs.Seats.{turn_view, turn_value}
use Rattle.phase_shared.specs.Phasers.{after_wait, Got, WaitRefusal, CoreState, StandsFor}
use Rattle.phase_shared.specs.Servings.{Serving, ServingOpen, IsBetween}
use Rattle.phase_shared.proofs.ServingReads.{HasRead, reads_more, owner_is}
use Rattle.phase_shared.proofs.ServingSteps.{waits_more}
use Rattle.phase_shared.proofs.ServingTurns.{reads_knows, same_turn, stays_open, core_stays, none_asked, none_own, below_or, is_other, is_else, is_holder}
use Rattle.phase_shared.proofs.TurnParts.{was_open}
use Rattle.phase_shared.specs.Views.{known_of}
use Rattle.phase_shared.proofs.seats.desk.OnTurn.wait_for.Given.{Over}
use Rattle.phase_shared.proofs.seats.desk.OnTurn.wait_for.Goals.{After-read_lane-on, After-read_owner-on}
use Rattle.phase_shared.specs.Goods.{allows_or}
use Rattle.phase_shared.proofs.seats.desk.OnTurn.wait_for.Goals as goal

pub read_lane-on-requires-clause-other : goal.read_lane-on-requires-clause-other
read_lane-on-requires-clause-other g c =
    let turn = c.args.self.turn in
    is_other g.A.Accumulate.operation g.S.Since.terms.limits (allows_or g.K.SignalRule.allows g.S.Since.terms.rule) g.S.Since.ask g.S.Since.seen true 0 c.args.lane (turn_view turn) (turn_value turn)
    (is_else g.A.Accumulate.operation g.S.Since.terms.limits (allows_or g.K.SignalRule.allows g.S.Since.terms.rule) g.S.Since.ask g.S.Since.seen c.args.self.of.request c.args.lane c.args.self.of.ask_is c.if-lane-request.false) c.requires.serving.serving

-- the lane was read
has_read : (g : Over) (c : After-read_lane-on g) (k : ℕ) → k ≤ c.args.lane
    → Serving g.A.Accumulate.operation g.S.Since.terms.limits (allows_or g.K.SignalRule.allows g.S.Since.terms.rule) g.S.Since.ask g.S.Since.seen true k (turn_view c.args.self.turn) (turn_value c.args.self.turn)
    → HasRead g.A.Accumulate.operation g.S.Since.terms.limits (allows_or g.K.SignalRule.allows g.S.Since.terms.rule) g.S.Since.ask g.S.Since.seen true k c.args.lane c.read_lane-on.result.1 (turn_view c.read_lane-on.result.0.turn) (turn_value c.args.self.turn)
has_read g c k low s =
    reads_more g.A.Accumulate.operation g.S.Since.terms.limits (allows_or g.K.SignalRule.allows g.S.Since.terms.rule) g.S.Since.ask g.S.Since.seen true k c.args.lane c.read_lane-on.result.1 (turn_view c.args.self.turn) (turn_view c.read_lane-on.result.0.turn)
    (turn_value c.args.self.turn) s c.read_lane-on.ensures.lane low
    (is_else g.A.Accumulate.operation g.S.Since.terms.limits (allows_or g.K.SignalRule.allows g.S.Since.terms.rule) g.S.Since.ask g.S.Since.seen c.args.self.of.request c.args.lane c.args.self.of.ask_is c.if-lane-request.false)

-- what it knows stays
knew : (g : Over) (c : After-read_lane-on g) → known_of (turn_view c.read_lane-on.result.0.turn) ≡ known_of (turn_view c.args.self.turn)
knew g c = reads_knows g.A.Accumulate.operation g.S.Since.terms.limits (allows_or g.K.SignalRule.allows g.S.Since.terms.rule) g.S.Since.ask g.S.Since.seen true 0 c.args.lane c.read_lane-on.result.1 (turn_view c.args.self.turn) (turn_view c.read_lane-on.result.0.turn)
    (turn_value c.args.self.turn) c.requires.serving.serving c.read_lane-on.ensures.lane

pub returns-then-found-request-clause-serving : goal.returns-then-found-request-clause-serving
returns-then-found-request-clause-serving g c =
    let at = (goal.at.returns-then-found-request-clause-serving g c).After-read_lane-on in
    let turn = c.read_lane-on.result.0.turn in
    stays_open g.A.Accumulate.operation g.S.Since.terms.limits (allows_or g.K.SignalRule.allows g.S.Since.terms.rule) g.S.Since.ask g.S.Since.seen true (turn_view c.args.self.turn) (turn_view turn) (turn_value c.args.self.turn) (turn_value turn) (knew g at) c.requires.serving
    (same_turn g.A.Accumulate.operation g.S.Since.terms.limits (allows_or g.K.SignalRule.allows g.S.Since.terms.rule) g.S.Since.ask g.S.Since.seen true 0 (turn_view turn) (turn_view turn) (turn_value c.args.self.turn) (turn_value turn) refl c.read_lane-on.ensures.value
    (has_read g at 0 (omega arith) c.requires.serving.serving).serving)

pub returns-then-found-request-clause-served : goal.returns-then-found-request-clause-served
returns-then-found-request-clause-served g c _ s =
    let turn = c.read_lane-on.result.0.turn in
    let h = has_read g (goal.at.returns-then-found-request-clause-served g c).After-read_lane-on c.args.lane (omega arith) s in
    same_turn g.A.Accumulate.operation g.S.Since.terms.limits (allows_or g.K.SignalRule.allows g.S.Since.terms.rule) g.S.Since.ask g.S.Since.seen true (c.args.lane + 1) (turn_view turn) (turn_view turn) (turn_value c.args.self.turn) (turn_value turn) refl c.read_lane-on.ensures.value
    (none_asked g.A.Accumulate.operation g.S.Since.terms.limits (allows_or g.K.SignalRule.allows g.S.Since.terms.rule) g.S.Since.ask g.S.Since.seen c.args.lane c.read_lane-on.result.1 (turn_view turn) (turn_value c.args.self.turn) h
    (λ is. c.if-found-request.true (is ∙ ap (λ a. a.phase + 1) c.args.self.of.ask_is)))

pub read_owner-on-requires-clause-holds : goal.read_owner-on-requires-clause-holds
read_owner-on-requires-clause-holds g c =
    is_holder g.A.Accumulate.operation g.S.Since.terms.limits (allows_or g.K.SignalRule.allows g.S.Since.terms.rule) g.S.Since.ask g.S.Since.seen true 0 (turn_view c.read_lane-on.result.0.turn) (turn_value c.args.self.turn)
    (has_read g (goal.at.read_owner-on-requires-clause-holds g c).After-read_lane-on 0 (omega arith) c.requires.serving.serving).serving

-- whose it is was read: nothing changed by that
module _ (g : Over) (c : After-read_owner-on g) (h : HasRead g.A.Accumulate.operation g.S.Since.terms.limits (allows_or g.K.SignalRule.allows g.S.Since.terms.rule) g.S.Since.ask g.S.Since.seen true 0 c.args.lane c.read_lane-on.result.1 (turn_view c.read_lane-on.result.0.turn)
    (turn_value c.args.self.turn))
    (same : known_of (turn_view c.read_lane-on.result.0.turn) ≡ known_of (turn_view c.args.self.turn)) where
  owner_same : turn_view c.read_owner-on.result.0.turn ≡ turn_view c.read_lane-on.result.0.turn
  owner_same =
      (owner_is g.A.Accumulate.operation g.S.Since.terms.limits (allows_or g.K.SignalRule.allows g.S.Since.terms.rule) g.S.Since.ask g.S.Since.seen true 0 c.args.lane c.read_owner-on.result.1 (turn_view c.read_lane-on.result.0.turn) (turn_view c.read_owner-on.result.0.turn)
      (turn_value c.args.self.turn) h.serving c.read_owner-on.ensures.owner).0

  -- the turn goes on, where it serves
  goes_on : (y : CoreState _) → Serving g.A.Accumulate.operation g.S.Since.terms.limits (allows_or g.K.SignalRule.allows g.S.Since.terms.rule) g.S.Since.ask g.S.Since.seen true 0 (turn_view c.read_owner-on.result.0.turn) y
      → ServingOpen g.A.Accumulate.operation g.S.Since.terms.limits (allows_or g.K.SignalRule.allows g.S.Since.terms.rule) g.S.Since.ask g.S.Since.seen true (turn_view c.read_owner-on.result.0.turn) y
  goes_on y s =
      stays_open g.A.Accumulate.operation g.S.Since.terms.limits (allows_or g.K.SignalRule.allows g.S.Since.terms.rule) g.S.Since.ask g.S.Since.seen true (turn_view c.args.self.turn) (turn_view c.read_owner-on.result.0.turn) (turn_value c.args.self.turn) y
      (ap known_of owner_same ∙ same) c.requires.serving s

  -- the turn as it was read
  as_read : (y : CoreState _) → y ≡ turn_value c.args.self.turn → ServingOpen g.A.Accumulate.operation g.S.Since.terms.limits (allows_or g.K.SignalRule.allows g.S.Since.terms.rule) g.S.Since.ask g.S.Since.seen true (turn_view c.read_owner-on.result.0.turn) y
  as_read y is =
      goes_on y (same_turn g.A.Accumulate.operation g.S.Since.terms.limits (allows_or g.K.SignalRule.allows g.S.Since.terms.rule) g.S.Since.ask g.S.Since.seen true 0 (turn_view c.read_lane-on.result.0.turn) (turn_view c.read_owner-on.result.0.turn) (turn_value c.args.self.turn) y
      owner_same is h.serving)

pub returns-then-not-is_between-clause-serving : goal.returns-then-not-is_between-clause-serving
returns-then-not-is_between-clause-serving g c =
    let at = goal.at.returns-then-not-is_between-clause-serving g c in
    as_read g at.After-read_owner-on (has_read g at.After-read_lane-on 0 (omega arith) c.requires.serving.serving) (knew g at.After-read_lane-on) c.value_in-core.result.now
    (c.value_in-core.ensures.value ∙ c.read_owner-on.ensures.value ∙ c.read_lane-on.ensures.value)

pub returns-in-Ok-Value-clause-serving : goal.returns-in-Ok-Value-clause-serving
returns-in-Ok-Value-clause-serving g c =
    let value = c.value_in-core.ensures.value ∙ c.read_owner-on.ensures.value ∙ c.read_lane-on.ensures.value in
    let at = goal.at.returns-in-Ok-Value-clause-serving g c in
    let h = has_read g at.After-read_lane-on 0 (omega arith) c.requires.serving.serving in
    let asked = sym c.args.self.of.ask_is in
    let task = c.saturating_sub-task.result in
    goes_on g at.After-read_owner-on h (knew g at.After-read_lane-on) c.wait.new.self
    (waits_more g.A.Accumulate.operation g.S.Since.terms.limits (allows_or g.K.SignalRule.allows g.S.Since.terms.rule) g.S.Since.ask g.S.Since.seen 0 c.args.lane task c.read_owner-on.result.1 c.read_lane-on.result.1 (turn_view c.read_lane-on.result.0.turn) (turn_view c.read_owner-on.result.0.turn)
    (turn_value c.args.self.turn) c.wait.new.self h
    (c.if-found-request.false ∙ ap (λ a. a.phase + 1) asked)
    (was_open g.A.Accumulate.operation g.S.Since.terms.limits (allows_or g.K.SignalRule.allows g.S.Since.terms.rule) g.S.Since.ask true 0 (turn_view c.args.self.turn) (turn_view c.read_lane-on.result.0.turn) (turn_value c.args.self.turn) h.serving.turned (knew g at.After-read_lane-on) c.requires.serving.was_open)
    c.read_owner-on.ensures.owner (λ m is. let e = c.saturating_sub-task.ensures in omega arith)
    (subst (λ (n : ℕ). IsBetween (turn_value c.args.self.turn).members task n) (ap (λ a. a.phase) asked)
    (subst (λ (x : CoreState _). IsBetween x.members task c.args.self.of.request.phase) value (c.is_between.ensures c.if-not-is_between.false)))
    (c.wait.ensures.limits ∙ ap (λ (x : CoreState _). x.limits) value)
    (subst (λ (r : Result Got WaitRefusal). StandsFor g.A.Accumulate.operation c.wait.new.self (after_wait r task (h.serving.turned.did.later ++ h.serving.turned.did.now)))
    (c.in-Ok-Value.is ∙ ap Ok c.in-Ok-Value.field-0-is)
    (c.wait.ensures.after (h.serving.turned.did.later ++ h.serving.turned.did.now)
    (subst (λ (x : CoreState _). StandsFor g.A.Accumulate.operation x (h.serving.turned.did.later ++ h.serving.turned.did.now)) (sym value) h.serving.turned.stands.stands)))
    0 (λ b low. absurd (omega arith)))

pub returns-in-Ok-Value-clause-served : goal.returns-in-Ok-Value-clause-served
returns-in-Ok-Value-clause-served g c _ s =
    let value = c.value_in-core.ensures.value ∙ c.read_owner-on.ensures.value ∙ c.read_lane-on.ensures.value in
    let at = (goal.at.returns-in-Ok-Value-clause-served g c).After-read_lane-on in
    let h = has_read g at c.args.lane (omega arith) s in
    let asked = sym c.args.self.of.ask_is in
    let task = c.saturating_sub-task.result in
    waits_more g.A.Accumulate.operation g.S.Since.terms.limits (allows_or g.K.SignalRule.allows g.S.Since.terms.rule) g.S.Since.ask g.S.Since.seen c.args.lane c.args.lane task c.read_owner-on.result.1 c.read_lane-on.result.1 (turn_view c.read_lane-on.result.0.turn) (turn_view c.read_owner-on.result.0.turn)
    (turn_value c.args.self.turn) c.wait.new.self h
    (c.if-found-request.false ∙ ap (λ a. a.phase + 1) asked)
    (was_open g.A.Accumulate.operation g.S.Since.terms.limits (allows_or g.K.SignalRule.allows g.S.Since.terms.rule) g.S.Since.ask true c.args.lane (turn_view c.args.self.turn) (turn_view c.read_lane-on.result.0.turn) (turn_value c.args.self.turn) h.serving.turned (knew g at) c.requires.serving.was_open)
    c.read_owner-on.ensures.owner (λ m is. let e = c.saturating_sub-task.ensures in omega arith)
    (subst (λ (n : ℕ). IsBetween (turn_value c.args.self.turn).members task n) (ap (λ a. a.phase) asked)
    (subst (λ (x : CoreState _). IsBetween x.members task c.args.self.of.request.phase) value (c.is_between.ensures c.if-not-is_between.false)))
    (c.wait.ensures.limits ∙ ap (λ (x : CoreState _). x.limits) value)
    (subst (λ (r : Result Got WaitRefusal). StandsFor g.A.Accumulate.operation c.wait.new.self (after_wait r task (h.serving.turned.did.later ++ h.serving.turned.did.now)))
    (c.in-Ok-Value.is ∙ ap Ok c.in-Ok-Value.field-0-is)
    (c.wait.ensures.after (h.serving.turned.did.later ++ h.serving.turned.did.now)
    (subst (λ (x : CoreState _). StandsFor g.A.Accumulate.operation x (h.serving.turned.did.later ++ h.serving.turned.did.now)) (sym value) h.serving.turned.stands.stands)))
    (c.args.lane + 1) (λ b low. below_or b.lane c.args.lane low)

pub returns-in-Ok-Ended-clause-serving : goal.returns-in-Ok-Ended-clause-serving
returns-in-Ok-Ended-clause-serving g c =
    let at = goal.at.returns-in-Ok-Ended-clause-serving g c in
    let h = has_read g at.After-read_lane-on 0 (omega arith) c.requires.serving.serving in
    let k = knew g at.After-read_lane-on in
    let value = c.value_in-core.ensures.value ∙ c.read_owner-on.ensures.value ∙ c.read_lane-on.ensures.value in
    let s = (as_read g at.After-read_owner-on h k c.value_in-core.result.now value).serving in
    let task = c.saturating_sub-task.result in
    goes_on g at.After-read_owner-on h k c.wait.new.self
    (core_stays g.A.Accumulate.operation g.S.Since.terms.limits (allows_or g.K.SignalRule.allows g.S.Since.terms.rule) g.S.Since.ask g.S.Since.seen true 0 (turn_view c.read_owner-on.result.0.turn) c.value_in-core.result.now c.wait.new.self s c.wait.ensures.limits
    (subst (λ (r : Result Got WaitRefusal). StandsFor g.A.Accumulate.operation c.wait.new.self (after_wait r task (s.turned.did.later ++ s.turned.did.now)))
    (c.in-Ok-Ended.is ∙ ap Ok c.in-Ok-Ended.field-0-is) (c.wait.ensures.after (s.turned.did.later ++ s.turned.did.now) s.turned.stands.stands)))

pub returns-in-Err-clause-serving : goal.returns-in-Err-clause-serving
returns-in-Err-clause-serving g c =
    let at = goal.at.returns-in-Err-clause-serving g c in
    as_read g at.After-read_owner-on (has_read g at.After-read_lane-on 0 (omega arith) c.requires.serving.serving) (knew g at.After-read_lane-on) c.wait.new.self
    (c.in-Err.ensures.err ∙ c.value_in-core.ensures.value ∙ c.read_owner-on.ensures.value ∙ c.read_lane-on.ensures.value)

-- it asks for itself in its own lane
pub returns-then-lane-request-clause-served : goal.returns-then-lane-request-clause-served
returns-then-lane-request-clause-served g c _ s =
    none_own g.A.Accumulate.operation g.S.Since.terms.limits (allows_or g.K.SignalRule.allows g.S.Since.terms.rule) g.S.Since.ask g.S.Since.seen c.args.lane (turn_view c.args.self.turn) (turn_value c.args.self.turn)
    (c.if-lane-request.true ∙ ap (λ a. a.lane) (sym c.args.self.of.ask_is)) s

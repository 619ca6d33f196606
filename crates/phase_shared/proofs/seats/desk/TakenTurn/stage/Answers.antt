use Rattle.std.proofs.Common.{◌≡◌, ◌∷◌, [], ◌<◌, Some, ap, sym, subst, ℕ, ◌∙◌, arith}
use Rattle.turn_lock.specs.Seats.{turn_view, turn_value}
use Rattle.phase_shared.specs.Phasers.{entry_of, done_of, members_of}
use Rattle.phase_shared.specs.Rule.{StandsWithin}
use Rattle.phase_shared.specs.Tells.{TookAsked}
use Rattle.phase_shared.specs.Views.{knowledge}
use Rattle.phase_shared.proofs.TurnGoes.{took_still, told_member, stage_found, open_now, answered_in, starting, serving}
use Rattle.phase_shared.proofs.seats.desk.TakenTurn.stage.Given.{Over}
use Rattle.phase_shared.proofs.seats.desk.TakenTurn.stage.Goals.{After-view, In-Some}
use Rattle.phase_shared.specs.Goods.{allows_or}
use Rattle.phase_shared.proofs.seats.desk.TakenTurn.stage.Goals as goal

-- what the take told, of the core as it was lent
took : (g : Over) (c : After-view g) → TookAsked (g.A.Accumulate.operation).value g.S.Since.terms.limits (allows_or g.K.SignalRule.allows g.S.Since.terms.rule) (StandsWithin g.A.Accumulate.operation g.S.Since.terms.limits) (knowledge g.S.Since.seen (g.S.Since.ask.task ∷ [])) g.S.Since.ask c.value_in-core.result.now
    (turn_view c.self.inside.on.turn)
took g c =
    took_still g.A.Accumulate.operation g.S.Since.terms.limits (allows_or g.K.SignalRule.allows g.S.Since.terms.rule) g.S.Since.ask g.S.Since.seen (turn_view c.self.inside.on.turn) (turn_value c.self.inside.on.turn) c.value_in-core.result.now c.value_in-core.ensures.value c.self.invariant.0

-- and of its task
viewed : (g : Over) (c : After-view g) → c.view.result ≡ entry_of c.value_in-core.result.now.members g.S.Since.ask.task
viewed g c = c.view.ensures ∙ ap (λ n. entry_of c.value_in-core.result.now.members n) (ap (λ a. a.task) (sym c.self.inside.on.of.ask_is))

pub unreachable-requires : goal.unreachable-requires
unreachable-requires g c =
    let at = (goal.at.unreachable-requires g c).After-view in
    stage_found g.A.Accumulate.operation g.S.Since.terms.limits (allows_or g.K.SignalRule.allows g.S.Since.terms.rule) g.S.Since.ask g.S.Since.seen (turn_view c.self.inside.on.turn) c.value_in-core.result.now (took g at) c.view.result (viewed g at) c.in_default.is

-- the entry that was told
module _ (g : Over) (c : In-Some g) (k : TookAsked (g.A.Accumulate.operation).value g.S.Since.terms.limits (allows_or g.K.SignalRule.allows g.S.Since.terms.rule) (StandsWithin g.A.Accumulate.operation g.S.Since.terms.limits) (knowledge g.S.Since.seen (g.S.Since.ask.task ∷ [])) g.S.Since.ask c.value_in-core.result.now
    (turn_view c.self.inside.on.turn)) (is : c.view.result ≡ entry_of c.value_in-core.result.now.members g.S.Since.ask.task) where
  member : entry_of (members_of k.now) g.S.Since.ask.task ≡ Some c.in-Some.entry
  member = told_member g.A.Accumulate.operation g.S.Since.terms.limits (allows_or g.K.SignalRule.allows g.S.Since.terms.rule) g.S.Since.ask g.S.Since.seen (turn_view c.self.inside.on.turn) c.value_in-core.result.now k c.view.result c.in-Some.entry is c.in-Some.is

  phase : g.S.Since.ask.phase ≡ c.self.inside.on.of.request.phase
  phase = ap (λ a. a.phase) c.self.inside.on.of.ask_is

pub take_answer-requires : goal.take_answer-requires
take_answer-requires g c =
    let at = goal.at.take_answer-requires g c in
    let k = took g at.After-view in
    let e : g.S.Since.ask.phase ≡ c.self.inside.on.of.request.phase = phase g at.In-Some k (viewed g at.After-view) in
    record {
      answered = answered_in g.A.Accumulate.operation g.S.Since.terms.limits (allows_or g.K.SignalRule.allows g.S.Since.terms.rule) g.S.Since.ask g.S.Since.seen (turn_view c.self.inside.on.turn) c.value_in-core.result.now k c.in-Some.entry (member g at.In-Some k (viewed g at.After-view))
          (let more = c.if-entry-request.true in omega arith);
    }

pub invariant_of-first : goal.invariant_of-first
invariant_of-first g c =
    let at = goal.at.invariant_of-first g c in
    let k = took g at.After-view in
    let w = c.self.invariant.1 in
    let e : g.S.Since.ask.phase ≡ c.self.inside.on.of.request.phase = phase g at.In-Some k (viewed g at.After-view) in (
      starting g.A.Accumulate.operation g.S.Since.terms.limits (allows_or g.K.SignalRule.allows g.S.Since.terms.rule) g.S.Since.ask g.S.Since.seen (turn_view c.self.inside.on.turn) c.value_in-core.result.now k c.in-Some.entry (member g at.In-Some k (viewed g at.After-view))
          w.alive w.waits w.may (c.if-entry-request-2.true ∙ sym e),
      w,
    )

pub wait_late-requires-clause-serving : goal.wait_late-requires-clause-serving
wait_late-requires-clause-serving g c =
    let at = goal.at.wait_late-requires-clause-serving g c in
    let k = took g at.After-view in
    let w = c.self.invariant.1 in
    let e : g.S.Since.ask.phase ≡ c.self.inside.on.of.request.phase = phase g at.In-Some k (viewed g at.After-view) in
    serving g.A.Accumulate.operation g.S.Since.terms.limits (allows_or g.K.SignalRule.allows g.S.Since.terms.rule) g.S.Since.ask g.S.Since.seen (turn_view c.self.inside.on.turn) c.value_in-core.result.now k c.in-Some.entry (member g at.In-Some k (viewed g at.After-view))
    w.alive w.waits w.may (let low = c.if-entry-request.false in omega arith) (λ same. c.if-entry-request-2.false (same ∙ e))

pub wait_late-requires-clause-complete : goal.wait_late-requires-clause-complete
wait_late-requires-clause-complete g c h stands =
    subst (λ (n : ℕ). n < done_of h) (ap (λ a. a.phase) (sym c.self.inside.on.of.ask_is))
    (subst (λ (n : ℕ). c.self.inside.on.of.request.phase < n) (c.done.ensures h stands) c.if-is_done.true)

pub invariant_of-going : goal.invariant_of-going
invariant_of-going g c =
    let at = goal.at.invariant_of-going g c in
    let k = took g at.After-view in
    let w = c.self.invariant.1 in
    let e : g.S.Since.ask.phase ≡ c.self.inside.on.of.request.phase = phase g at.In-Some k (viewed g at.After-view) in
    record {
      serving = serving g.A.Accumulate.operation g.S.Since.terms.limits (allows_or g.K.SignalRule.allows g.S.Since.terms.rule) g.S.Since.ask g.S.Since.seen (turn_view c.self.inside.on.turn) c.value_in-core.result.now k c.in-Some.entry (member g at.In-Some k (viewed g at.After-view))
          w.alive w.waits w.may (let low = c.if-entry-request.false in omega arith) (λ same. c.if-entry-request-2.false (same ∙ e));
      was_open = open_now g.A.Accumulate.operation g.S.Since.terms.limits (allows_or g.K.SignalRule.allows g.S.Since.terms.rule) g.S.Since.ask g.S.Since.seen (turn_view c.self.inside.on.turn) c.value_in-core.result.now k c.done.result c.done.ensures
          (let low = c.if-is_done.false in omega arith);
      asks = w;
    }

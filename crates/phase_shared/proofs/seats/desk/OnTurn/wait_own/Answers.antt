use Rattle.std.proofs.Common.{◌≡◌, ◌++◌, sym, ap, subst, ◌∙◌}
use Rattle.std.specs.Prelude.{Result, Ok, Err}
use Rattle.turn_lock.specs.Seats.{turn_view, turn_value}
use Rattle.phase_shared.specs.Phasers.{CoreState, StandsFor, after_wait, wait_reply, Got, WaitRefusal}
use Rattle.phase_history.specs.declared.got.Got.TheVariants as got
use Rattle.phase_shared.proofs.ServingTurns.{own_reply, own_waited}
use Rattle.phase_shared.specs.Goods.{allows_or}
use Rattle.phase_shared.proofs.seats.desk.OnTurn.wait_own.Goals as goal

pub returns-clause-finished : goal.returns-clause-finished
returns-clause-finished g c serves k s done =
    let task = g.S.Since.ask.task in
    let asked = ap (λ a. a.task) (sym c.args.self.of.ask_is) in
    let h = s.turned.did.later ++ s.turned.did.now in
    let x = c.value_in-core.result.now in
    let new = c.wait.new.self in
    let value = c.value_in-core.ensures.value in
    let stands : StandsFor g.A.Accumulate.operation x h = subst (λ (y : CoreState _). StandsFor g.A.Accumulate.operation y h) (sym value) s.turned.stands.stands in
    let value_is : c.in-Ok-Value.field-0 ≡ got.Value c.in-Ok-Value.field-0-0 c.in-Ok-Value.outcome = c.in-Ok-Value.field-0-is in
    let is : c.wait.result ≡ Ok (got.Value c.in-Ok-Value.field-0-0 c.in-Ok-Value.outcome) = c.in-Ok-Value.is ∙ ap Ok value_is in
    let reply : wait_reply (g.A.Accumulate.operation).value x.limits h task ≡ c.wait.result =
    subst (λ n. wait_reply (g.A.Accumulate.operation).value x.limits h n ≡ c.wait.result) asked (c.wait.ensures.reply h stands) in
    own_waited g.A.Accumulate.operation g.S.Since.terms.limits (allows_or g.K.SignalRule.allows g.S.Since.terms.rule) g.S.Since.ask g.S.Since.seen serves k c.in-Ok-Value.outcome c.in-Ok-Value.field-0-0 (turn_view c.args.self.turn) (turn_value c.args.self.turn) new s done
    (sym (ap (λ l. wait_reply (g.A.Accumulate.operation).value l h task) (sym (ap (λ (y : CoreState _). y.limits) value ∙ s.turned.stands.limits_are)) ∙ reply ∙ is))
    (c.wait.ensures.limits ∙ ap (λ (y : CoreState _). y.limits) value)
    (subst (λ n. StandsFor g.A.Accumulate.operation new (after_wait (Ok (got.Value c.in-Ok-Value.field-0-0 c.in-Ok-Value.outcome)) n h)) asked
    (subst (λ (r : Result Got WaitRefusal). StandsFor g.A.Accumulate.operation new (after_wait r c.args.self.of.request.task h)) is (c.wait.ensures.after h stands)))

-- the wait is accepted
pub unreachable-requires-in-Err : goal.unreachable-requires-in-Err
unreachable-requires-in-Err g c =
    let task = g.S.Since.ask.task in
    let asked = ap (λ a. a.task) (sym c.args.self.of.ask_is) in
    let s = c.requires.serving.2 in
    let h = s.turned.did.later ++ s.turned.did.now in
    let x = c.value_in-core.result.now in
    let value = c.value_in-core.ensures.value in
    let stands : StandsFor g.A.Accumulate.operation x h = subst (λ (y : CoreState _). StandsFor g.A.Accumulate.operation y h) (sym value) s.turned.stands.stands in
    let reply : wait_reply (g.A.Accumulate.operation).value (g.S.Since.terms.limits) h task ≡ c.wait.result =
    ap (λ l. wait_reply (g.A.Accumulate.operation).value l h task) (sym (ap (λ (y : CoreState _). y.limits) value ∙ s.turned.stands.limits_are))
    ∙ subst (λ n. wait_reply (g.A.Accumulate.operation).value x.limits h n ≡ c.wait.result) asked (c.wait.ensures.reply h stands) in
    let accepted = own_reply g.A.Accumulate.operation g.S.Since.terms.limits (allows_or g.K.SignalRule.allows g.S.Since.terms.rule) g.S.Since.ask g.S.Since.seen c.requires.serving.0 c.requires.serving.1 (turn_view c.args.self.turn) (turn_value c.args.self.turn) s c.requires.serving.3 in
    absurd (not_both_answers (sym accepted ∙ reply ∙ c.in-Err.is))
  where
    not_both_answers : {x : Got} {r : WaitRefusal} → ◌≡◌ {A = Result Got WaitRefusal} (Ok x) (Err r) → ⊥
    not_both_answers e = cc

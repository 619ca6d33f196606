use Rattle.std.proofs.Common.{◌≡◌, [], ◌∷◌, Ok, Err, sym, subst, ap, refl, ◌∙◌}
use Rattle.phase_shared.specs.Phasers.{History, OthersCame}
use Rattle.phase_history.specs.declared.refusal.SignalRefusal.TheVariants.{Ahead, NoTask}
use Rattle.phase_shared.specs.Regs.{phaser_terms}
use Rattle.phase_shared.specs.Calls.{Tries}
use Rattle.phase_shared.specs.Entries.{entry_after_both}
use Rattle.phase_shared.specs.Nexts.{SignalsAndMayWait}
use Rattle.phase_shared.specs.Closings.{refusal_of_stop}
use Rattle.phase_shared.proofs.Later.{may_later, signals_and_may_wait_later, waits_on, accepted, refused}
use Rattle.phase_shared.proofs.reg.Reg.signal_until.Goals as goal

pub try_signal_and_wait-requires-clause-rule : goal.try_signal_and_wait-requires-clause-rule
try_signal_and_wait-requires-clause-rule g c =
    let i = c.loop.invariant in
    may_later g.A.Accumulate.operation (phaser_terms c.args.phaser.now) c.args.single c.args.self.now c.loop.self i.number i.held i.others
    g.K.SignalRule.allows c.requires.rule

pub returns-in-Ok-clause-call : goal.returns-in-Ok-clause-call
returns-in-Ok-clause-call g c =
    let start = c.args.self.now in
    let i = c.loop.invariant in
    let op = g.A.Accumulate.operation in
    let terms = phaser_terms c.args.phaser.now in
    let now = c.loop.self in
    let new = c.try_signal_and_wait.new.self in
    let call = SignalsAndMayWait c.args.waits op terms.limits now.number now.held c.args.single now.seen new.seen in
    let t = c.try_signal_and_wait.ensures.call in
    accepted g.K.SignalRule.allows terms NoTask entry_after_both start now new i (Tries (new ≡ now) call c.try_signal_and_wait.result)
    (SignalsAndMayWait c.args.waits op terms.limits start.number start.held c.args.single start.seen new.seen (Ok c.in-Ok.answer))
    c.try_signal_and_wait.result c.in-Ok.answer c.in-Ok.is t
    (signals_and_may_wait_later op terms c.args.single start now i.number i.held i.others c.args.waits new.seen (Ok c.in-Ok.answer)
    (subst (λ r. Tries (new ≡ now) call r) c.in-Ok.is t.call))

pub returns-in-Some-ends_signal-clause-call : goal.returns-in-Some-ends_signal-clause-call
returns-in-Some-ends_signal-clause-call g c =
    let start = c.args.self.now in
    let i = c.loop.invariant in
    let op = g.A.Accumulate.operation in
    let terms = phaser_terms c.args.phaser.now in
    let now = c.loop.self in
    let new = c.try_signal_and_wait.new.self in
    let refusal = refusal_of_stop Ahead c.in-Some-ends_signal.stopped in
    let call = SignalsAndMayWait c.args.waits op terms.limits now.number now.held c.args.single now.seen new.seen in
    let t = c.try_signal_and_wait.ensures.call in
    let is = c.in-Err.is ∙ ap Err c.in-Some-ends_signal.ensures.some in
    refused g.K.SignalRule.allows terms NoTask entry_after_both start now new i (Tries (new ≡ now) call c.try_signal_and_wait.result)
    (SignalsAndMayWait c.args.waits op terms.limits start.number start.held c.args.single start.seen new.seen (Err refusal))
    c.try_signal_and_wait.result refusal is t
    (signals_and_may_wait_later op terms c.args.single start now i.number i.held i.others c.args.waits new.seen (Err refusal)
    (subst (λ r. Tries (new ≡ now) call r) is t.call))

pub loop-preserved : goal.loop-preserved
loop-preserved g c =
    let terms = phaser_terms c.args.phaser.now in
    let now = c.loop.self in
    let new = c.try_signal_and_wait.new.self in
    waits_on g.K.SignalRule.allows terms NoTask entry_after_both c.args.self.now now new c.loop.invariant
    (SignalsAndMayWait c.args.waits g.A.Accumulate.operation terms.limits now.number now.held c.args.single now.seen new.seen)
    Ahead c.in-Err.tried c.try_signal_and_wait.result c.in-Err.is c.in_default.ensures.none c.try_signal_and_wait.ensures.call
    (λ s. subst (λ (h : History). OthersCame (now.number ∷ []) now.seen h) (sym s.seen) s.others) (λ e. refl) c.in-Err.ensures.held

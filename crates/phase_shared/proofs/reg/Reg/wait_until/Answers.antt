use Rattle.std.proofs.Common.{◌≡◌, [], ◌∷◌, Ok, Err, sym, subst, ap, refl, ◌∙◌}
use Rattle.phase_shared.specs.Phasers.{History, OthersCame}
use Rattle.phase_history.specs.declared.refusal.WaitRefusal.TheVariants.{NotYet, NoTask}
use Rattle.phase_shared.specs.Regs.{phaser_terms}
use Rattle.phase_shared.specs.Calls.{Tries, Waits}
use Rattle.phase_shared.specs.Closings.{refusal_of_stop}
use Rattle.phase_shared.specs.Entries.{entry_after_wait}
use Rattle.phase_shared.proofs.Later.{waits_later, waits_on, accepted, refused}
use Rattle.phase_shared.proofs.reg.Reg.wait_until.Goals as goal

pub returns-in-Ok-clause-call : goal.returns-in-Ok-clause-call
returns-in-Ok-clause-call g c =
    let start = c.args.self.now in
    let i = c.loop.invariant in
    let value = g.A.Accumulate.operation.value in
    let terms = phaser_terms c.args.phaser.now in
    let now = c.loop.self in
    let new = c.try_wait.new.self in
    let call = Waits value terms.limits now.number now.seen new.seen in
    let t = c.try_wait.ensures.call in
    accepted g.K.SignalRule.allows terms NoTask entry_after_wait start now new i (Tries (new ≡ now) call c.try_wait.result)
    (Waits value terms.limits start.number start.seen new.seen (Ok c.in-Ok.got)) c.try_wait.result c.in-Ok.got c.in-Ok.is t
    (waits_later value terms.limits start.number now.number start.seen now.seen new.seen (Ok c.in-Ok.got) i.number i.others
    (subst (λ r. Tries (new ≡ now) call r) c.in-Ok.is t.call))

pub returns-in-Some-ends_wait-clause-call : goal.returns-in-Some-ends_wait-clause-call
returns-in-Some-ends_wait-clause-call g c =
    let start = c.args.self.now in
    let i = c.loop.invariant in
    let value = g.A.Accumulate.operation.value in
    let terms = phaser_terms c.args.phaser.now in
    let now = c.loop.self in
    let new = c.try_wait.new.self in
    let call = Waits value terms.limits now.number now.seen new.seen in
    let t = c.try_wait.ensures.call in
    let is = c.in-Err.is ∙ ap Err c.in-Some-ends_wait.ensures.some in
    refused g.K.SignalRule.allows terms NoTask entry_after_wait start now new i (Tries (new ≡ now) call c.try_wait.result)
    (Waits value terms.limits start.number start.seen new.seen (Err (refusal_of_stop NotYet c.in-Some-ends_wait.stopped))) c.try_wait.result (refusal_of_stop NotYet c.in-Some-ends_wait.stopped) is t
    (waits_later value terms.limits start.number now.number start.seen now.seen new.seen (Err (refusal_of_stop NotYet c.in-Some-ends_wait.stopped)) i.number i.others
    (subst (λ r. Tries (new ≡ now) call r) is t.call))

pub loop-preserved : goal.loop-preserved
loop-preserved g c =
    let terms = phaser_terms c.args.phaser.now in
    let now = c.loop.self in
    let new = c.try_wait.new.self in
    waits_on g.K.SignalRule.allows terms NoTask entry_after_wait c.args.self.now now new c.loop.invariant
    (Waits g.A.Accumulate.operation.value terms.limits now.number now.seen new.seen) NotYet c.in-Err.tried c.try_wait.result c.in-Err.is
    c.in_default.ensures.none c.try_wait.ensures.call
    (λ w. subst (λ (h : History). OthersCame (now.number ∷ []) now.seen h) (sym w.seen) w.others) (λ e. refl) c.try_wait.ensures.held

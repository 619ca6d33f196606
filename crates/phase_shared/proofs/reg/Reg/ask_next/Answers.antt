use Rattle.std.proofs.Common.{◌≡◌, None, Some, Ok, Err, sym, ap, subst, ◌∙◌}
use Rattle.std.specs.Prelude.{is_ok, IfSome, IfNone}
use Rattle.phase_history.specs.declared.refusal.SignalRefusal.TheVariants.{NoTask}
use Rattle.phase_shared.specs.Calls.{IsCall, MaySignal, HeldAfter}
use Rattle.phase_shared.specs.Entries.{entry_after_next}
use Rattle.phase_shared.specs.Nexts.{GoesOrRefuses}
use Rattle.phase_shared.specs.Regs.{phaser_terms}
use Rattle.phase_shared.proofs.Later.{may_later}
use Rattle.phase_shared.proofs.LaterNexts.{next_later, next_waits}
use Rattle.phase_shared.proofs.reg.Reg.ask_next.Given.{Over}
use Rattle.phase_shared.proofs.reg.Reg.ask_next.Goals.{In-None-ask_once}
use Rattle.phase_shared.proofs.reg.Reg.ask_next.Goals as goal

pub ask_once-requires-clause-rule : goal.ask_once-requires-clause-rule
ask_once-requires-clause-rule g c =
    let i = c.loop.invariant in
    may_later g.A.Accumulate.operation (phaser_terms c.args.phaser.now) None c.args.self.now c.loop.self i.number i.held i.others g.K.SignalRule.allows
    c.requires.rule

-- nothing came of it, where its lane is not its own
module _ (g : Over) (c : In-None-ask_once g) where
  still : c.ask_once.new.self ≡ c.loop.self
  still = subst (λ o. IfNone o (c.ask_once.new.self ≡ c.loop.self)) c.in-None-ask_once.is c.ask_once.ensures.none

pub next_by_turns-requires-clause-rule : goal.next_by_turns-requires-clause-rule
next_by_turns-requires-clause-rule g c =
    let i = c.loop.invariant in
    let terms = phaser_terms c.args.phaser.now in
    subst (λ reg. MaySignal g.A.Accumulate.operation g.K.SignalRule.allows terms reg None) (sym (still g (goal.at.next_by_turns-requires-clause-rule g c).In-None-ask_once))
    (may_later g.A.Accumulate.operation terms None c.args.self.now c.loop.self i.number i.held i.others g.K.SignalRule.allows c.requires.rule)

pub returns-in-None-ask_once-clause-call : goal.returns-in-None-ask_once-clause-call
returns-in-None-ask_once-clause-call g c =
    let op = g.A.Accumulate.operation in
    let terms = phaser_terms c.args.phaser.now in
    let new = c.next_by_turns.new.self in
    let result = c.next_by_turns.result in
    next_later op terms None c.args.self.now c.loop.self c.loop.invariant c.requires.both.0 g.K.SignalRule.allows new result
    (subst (λ reg. IsCall g.K.SignalRule.allows terms NoTask entry_after_next (GoesOrRefuses op terms.limits None reg new.seen result) reg new result)
    (still g (goal.at.returns-in-None-ask_once-clause-call g c).In-None-ask_once) c.next_by_turns.ensures.call)

-- it was ahead
pub loop-preserved : goal.loop-preserved
loop-preserved g c =
    let op = g.A.Accumulate.operation in
    let terms = phaser_terms c.args.phaser.now in
    let now = c.loop.self in
    let new = c.ask_once.new.self in
    let is = c.in-Some-Err.is ∙ ap Some c.in-Some-Err.field-0-is in
    next_waits op terms None c.args.self.now now c.loop.invariant c.requires.both.0 g.K.SignalRule.allows new c.in-Some-Err.refusal
    (subst (λ o. IfSome o (λ r. IsCall g.K.SignalRule.allows terms NoTask entry_after_next (GoesOrRefuses op terms.limits None now new.seen r) now new r)) is c.ask_once.ensures.call)
    (subst (λ o. IfSome o (λ r. HeldAfter op (is_ok r) now.held new.held)) is c.ask_once.ensures.held)

pub returns-in-Some-Ok-clause-call : goal.returns-in-Some-Ok-clause-call
returns-in-Some-Ok-clause-call g c =
    let op = g.A.Accumulate.operation in
    let terms = phaser_terms c.args.phaser.now in
    let now = c.loop.self in
    let new = c.ask_once.new.self in
    next_later op terms None c.args.self.now now c.loop.invariant c.requires.both.0 g.K.SignalRule.allows new (Ok c.in-Some-Ok.next)
    (subst (λ o. IfSome o (λ r. IsCall g.K.SignalRule.allows terms NoTask entry_after_next (GoesOrRefuses op terms.limits None now new.seen r) now new r))
    (c.in-Some-Ok.is ∙ ap Some c.in-Some-Ok.field-0-is) c.ask_once.ensures.call)

pub returns-in_default-clause-call : goal.returns-in_default-clause-call
returns-in_default-clause-call g c =
    let op = g.A.Accumulate.operation in
    let terms = phaser_terms c.args.phaser.now in
    let now = c.loop.self in
    let new = c.ask_once.new.self in
    next_later op terms None c.args.self.now now c.loop.invariant c.requires.both.0 g.K.SignalRule.allows new (Err c.in-Some-Err.refusal)
    (subst (λ o. IfSome o (λ r. IsCall g.K.SignalRule.allows terms NoTask entry_after_next (GoesOrRefuses op terms.limits None now new.seen r) now new r))
    (c.in-Some-Err.is ∙ ap Some c.in-Some-Err.field-0-is) c.ask_once.ensures.call)

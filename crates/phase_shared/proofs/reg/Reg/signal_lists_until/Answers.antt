use Rattle.std.proofs.Common.{◌≡◌, [], ◌∷◌, length, Ok, Err, refl, sym, subst, ap, ◌∙◌}
use Rattle.phase_shared.specs.Phasers.{History, OthersCame}
use Rattle.phase_history.specs.declared.refusal.SignalRefusal.TheVariants.{Ahead, NoTask}
use Rattle.phase_shared.specs.Regs.{phaser_terms}
use Rattle.phase_shared.specs.Calls.{Tries}
use Rattle.phase_shared.specs.Blocks.{SignalsBlock, entry_after_block}
use Rattle.phase_shared.specs.Closings.{refusal_of_stop}
use Rattle.phase_shared.proofs.Later.{waits_on, accepted, refused}
use Rattle.phase_shared.proofs.LaterBlocks.{may_block_later, signals_block_later}
use Rattle.phase_shared.proofs.reg.Reg.signal_lists_until.Goals as goal

pub try_signal_lists-requires-clause-rule : goal.try_signal_lists-requires-clause-rule
try_signal_lists-requires-clause-rule g c =
    let i = c.loop.invariant in
    may_block_later g.A.Accumulate.operation (phaser_terms c.args.phaser.now) c.args.lists.now c.args.single c.args.self.now c.loop.self i.number i.others
    g.K.SignalRule.allows c.requires.rule

pub returns-in-Ok-clause-call : goal.returns-in-Ok-clause-call
returns-in-Ok-clause-call g c =
    let start = c.args.self.now in
    let i = c.loop.invariant in
    let op = g.A.Accumulate.operation in
    let terms = phaser_terms c.args.phaser.now in
    let now = c.loop.self in
    let new = c.try_signal_lists.new.self in
    let lists = c.args.lists.now in
    let call = SignalsBlock op terms.limits now.number lists c.args.single now.seen new.seen in
    let t = c.try_signal_lists.ensures.call in
    accepted g.K.SignalRule.allows terms NoTask (entry_after_block (length lists)) start now new i (Tries (new ≡ now) call c.try_signal_lists.result)
    (SignalsBlock op terms.limits start.number lists c.args.single start.seen new.seen (Ok c.in-Ok.phase)) c.try_signal_lists.result c.in-Ok.phase c.in-Ok.is t
    (signals_block_later op terms lists c.args.single start now i.number i.others new.seen (Ok c.in-Ok.phase)
    (subst (λ r. Tries (new ≡ now) call r) c.in-Ok.is t.call))

pub returns-in-Some-ends_signal-clause-call : goal.returns-in-Some-ends_signal-clause-call
returns-in-Some-ends_signal-clause-call g c =
    let start = c.args.self.now in
    let i = c.loop.invariant in
    let op = g.A.Accumulate.operation in
    let terms = phaser_terms c.args.phaser.now in
    let now = c.loop.self in
    let new = c.try_signal_lists.new.self in
    let lists = c.args.lists.now in
    let call = SignalsBlock op terms.limits now.number lists c.args.single now.seen new.seen in
    let t = c.try_signal_lists.ensures.call in
    let is = c.in-Err.is ∙ ap Err c.in-Some-ends_signal.ensures.some in
    refused g.K.SignalRule.allows terms NoTask (entry_after_block (length lists)) start now new i (Tries (new ≡ now) call c.try_signal_lists.result)
    (SignalsBlock op terms.limits start.number lists c.args.single start.seen new.seen (Err (refusal_of_stop Ahead c.in-Some-ends_signal.stopped))) c.try_signal_lists.result
    (refusal_of_stop Ahead c.in-Some-ends_signal.stopped) is t
    (signals_block_later op terms lists c.args.single start now i.number i.others new.seen (Err (refusal_of_stop Ahead c.in-Some-ends_signal.stopped))
    (subst (λ r. Tries (new ≡ now) call r) is t.call))

pub loop-preserved : goal.loop-preserved
loop-preserved g c =
    let terms = phaser_terms c.args.phaser.now in
    let now = c.loop.self in
    let new = c.try_signal_lists.new.self in
    let lists = c.args.lists.now in
    waits_on g.K.SignalRule.allows terms NoTask (entry_after_block (length lists)) c.args.self.now now new c.loop.invariant
    (SignalsBlock g.A.Accumulate.operation terms.limits now.number lists c.args.single now.seen new.seen) Ahead c.in-Err.tried c.try_signal_lists.result
    c.in-Err.is c.in_default.ensures.none c.try_signal_lists.ensures.call
    (λ s. subst (λ (h : History). OthersCame (now.number ∷ []) now.seen h) (sym s.seen) s.others) (λ e. refl) c.try_signal_lists.ensures.held

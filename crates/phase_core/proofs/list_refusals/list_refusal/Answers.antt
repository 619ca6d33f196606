-- Where no earlier row applies, the ring's refusal is the phase's, and there is none from the top on.
use Rattle.std.proofs.Common.{◌≤◌, Some, None, sym, ap, ◌∙◌, arith}
use Rattle.phase_base.specs.declared.limits.TheConstants.{SENDS_MAX}
use Rattle.phase_ring.specs.Slots.{merge_refusal}
use Rattle.phase_core.proofs.SignalRows.{phase_by_ring, unused_takes, none-of, some-of}
use Rattle.phase_core.proofs.list_refusals.list_refusal.Goals as goal

pub returns-then-entry-board : goal.returns-then-entry-board
returns-then-entry-board g c =
    let b = c.args.board.now in
    let opened = c.requires (some-of c.args.slowest c.in-Some._slowest c.in-Some.is) in
    let few : c.args.pending.now.count ≤ SENDS_MAX = (let n = c.count-held.ensures.value in let most = c.count-held.ensures.few in omega arith) in
    phase_by_ring g.A.Accumulate.operation b.limits c.args.slowest b.ring b.done b.top c.args.entry c.args.pending.now c.args.single.now
    c.early_refusal-early.result None opened c.early_refusal-early.ensures
    (none-of c.early_refusal-early.result (sym c.is_some.ensures ∙ c.if-is_some.false))
    (λ slot at. unused_takes g.A.Accumulate.operation slot c.args.pending.now.count c.args.single.now
    (opened.kept.unused c.args.entry.signal_phase slot (let low = opened.low in let base = opened.kept.base_done in omega arith) at c.if-entry-board.true) few)

pub returns-in-Err : goal.returns-in-Err
returns-in-Err g c =
    let b = c.args.board.now in
    ap Some c.phase_refusal.ensures
    ∙ phase_by_ring g.A.Accumulate.operation b.limits c.args.slowest b.ring b.done b.top c.args.entry c.args.pending.now c.args.single.now
    c.early_refusal-early.result (Some c.in-Err.refusal) (c.requires (some-of c.args.slowest c.in-Some._slowest c.in-Some.is)) c.early_refusal-early.ensures
    (none-of c.early_refusal-early.result (sym c.is_some.ensures ∙ c.if-is_some.false))
    (λ slot at. ap (λ n. merge_refusal slot n c.args.single.now) (sym c.count-held.ensures.value) ∙ c.in-Err.ensures.refused slot at)

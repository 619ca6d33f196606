-- Leaving receives nothing, and no more comes after the end.
use Rattle.std.proofs.Common.{◌≡◌, [], ◌∷◌, map, sym, ap, subst, ◌∙◌}
use Rattle.phase_history.specs.Phases.{received_by}
use Rattle.phase_shared.specs.Regs.{RegState, PastState, phaser_limits}
use Rattle.phase_received.specs.Received.{received_of}
use Rattle.phase_received.specs.Whole.{HasSeenEnd, HasWhole}
use Rattle.phase_received.proofs.Wholes.{whole_left}
use Rattle.phase_received.proofs.receiver.Receiver.leave.Goals as goal

pub of-requires : goal.of-requires
of-requires g c =
    let op = g.A.Accumulate.operation in
    let reg = c.self.inside.reg in
    let past = c.leave-past.result in
    ap (λ list. list ∷ []) (c.self.invariant ∙ sym ((c.leaves.ensures.part reg.number reg.seen past.seen c.leave-past.ensures.call).received op.value))
    ∙ ap (λ numbers. map (received_by op.value past.seen) numbers) (sym c.leave-past.ensures.numbers)

pub returns-clause-received : goal.returns-clause-received
returns-clause-received g c =
    let op = g.A.Accumulate.operation in
    let reg = c.self.inside.reg in
    let past = c.leave-past.result in
    let same : received_of op reg ≡ received_by op.value past.seen reg.number =
    sym ((c.leaves.ensures.part reg.number reg.seen past.seen c.leave-past.ensures.call).received op.value) in
    let Q : RegState g.row.A.Denot g.row.K.Denot → Type 0 = λ r. received_of op r ≡ received_by op.value past.seen r.number in
    subst Q c.self.view_is same ∙ ap (λ (p : PastState g.row.K.Denot). received_by op.value p.seen c.args.self.number) (sym c.of.ensures)

pub returns-clause-whole : goal.returns-clause-whole
returns-clause-whole g c =
    let op = g.A.Accumulate.operation in
    let reg = c.self.inside.reg in
    let past = c.leave-past.result in
    let Q : RegState g.row.A.Denot g.row.K.Denot → Type 0 =
    λ r. HasSeenEnd r.seen r.number → HasWhole op.value c.of.result.seen r.number in
    subst Q c.self.view_is (λ end.
    subst (λ (p : PastState g.row.K.Denot). HasWhole op.value p.seen reg.number) (sym c.of.ensures)
    (whole_left op.value (phaser_limits c.args.phaser.now) reg.number reg.entry reg.seen past.seen c.leave-past.ensures.good.legal
    c.mode-mode.ensures.entry c.leave-past.ensures.call
    ((c.leaves.ensures.part reg.number reg.seen past.seen c.leave-past.ensures.call).received op.value) end))

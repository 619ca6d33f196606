-- No more comes after the end.
use Rattle.std.proofs.Common.{sym, subst}
use Rattle.phase_shared.specs.Regs.{RegState, PastState, phaser_limits}
use Rattle.phase_received.specs.Whole.{HasSeenEnd, HasWhole}
use Rattle.phase_received.proofs.Wholes.{whole_left}
use Rattle.phase_received.proofs.receiver.Receiver.try_leave.Goals as goal

pub returns-in-Ok-clause-whole : goal.returns-in-Ok-clause-whole
returns-in-Ok-clause-whole g c =
    let op = g.A.Accumulate.operation in
    let reg = c.self.inside.reg in
    let past = c.in-Ok.past in
    let left = c.in-Ok.ensures.ok in
    let Q : RegState g.row.A.Denot g.row.K.Denot → Type 0 =
    λ r. HasSeenEnd r.seen r.number → HasWhole op.value c.of.result.seen r.number in
    subst Q c.self.view_is (λ end.
    subst (λ (p : PastState g.row.K.Denot). HasWhole op.value p.seen reg.number) (sym c.of.ensures)
    (whole_left op.value (phaser_limits c.args.phaser.now) reg.number reg.entry reg.seen past.seen c.in-Ok.ensures.good.legal
    c.mode-mode.ensures.entry left ((c.leaves.ensures.part reg.number reg.seen past.seen left).received op.value) end))

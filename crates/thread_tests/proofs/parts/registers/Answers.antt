-- The child starts where its parent stands.
use Rattle.std.proofs.Common.{ap, ◌∙◌}
use Rattle.phase_history.specs.Histories.{start_of}
use Rattle.phase_shared.specs.Regs.{phaser_limits}
use Rattle.thread_tests.proofs.parts.registers.Goals as goal

pub returns-clause-start : goal.returns-clause-start
returns-clause-start g c =
    let old = c.args.parent.now in
    let new = c.register.new.self in
    let child = c.in-Ok.child in
    let is = c.in-Ok.ensures.call.call in
    ap (λ h. start_of h child.number) is.seen
    ∙ c.registers.ensures.start (phaser_limits c.args.phaser.now) old.number child.number c.args.mode old.seen new.seen old.entry
    c.register.ensures.call.good.legal is.registered c.mode-mode.ensures.entry

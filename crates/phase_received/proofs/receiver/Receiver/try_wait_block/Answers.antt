-- Where no more will come, no registered task signals, and each phase was got.
use Rattle.std.proofs.Common.{◌≡◌, sym, ap, subst, ◌∙◌}
use Rattle.std.specs.Prelude.{Result, Ok}
use Rattle.phase_history.specs.declared.got.GotBlock.{GotBlock}
use Rattle.phase_history.specs.declared.refusal.WaitRefusal.{WaitRefusal}
use Rattle.phase_shared.specs.declared.tried.Tried.{Tried}
use Rattle.phase_shared.specs.Calls.{Tries}
use Rattle.phase_shared.specs.Blocks.{WaitsBlock}
use Rattle.phase_shared.specs.Regs.{phaser_limits}
use Rattle.phase_received.specs.Whole.{HasSeenEnd}
use Rattle.phase_received.proofs.Blocks.{block_seen_end}
use Rattle.phase_received.proofs.receiver.Receiver.try_wait_block.Goals as goal

pub returns-clause-ended : goal.returns-clause-ended
returns-clause-ended g c is =
    let op = g.A.Accumulate.operation in
    let old = c.self.inside.reg in
    let new = c.try_wait_block.new.self in
    let call = c.try_wait_block.ensures.call in
    subst (λ n. HasSeenEnd new.seen n) (sym call.at.1)
    (block_seen_end op.value (phaser_limits c.args.phaser.now) old.number old.seen new.seen c.args.out.now c.try_wait_block.new.out
    (subst (λ (r : Result GotBlock (Tried WaitRefusal)). Tries ((new ≡ old) × (c.try_wait_block.new.out ≡ c.args.out.now)) (WaitsBlock op.value (phaser_limits c.args.phaser.now) old.number old.seen new.seen c.args.out.now c.try_wait_block.new.out) r) (c.in-Ok.is ∙ ap Ok is) call.call))

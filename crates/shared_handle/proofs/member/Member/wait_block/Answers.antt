-- The registration waits for a block, and gets no more values than there are places.
use Rattle.std.proofs.Common.{◌≡◌, sym, ap, subst, ◌∙◌}
use Rattle.phase_base.specs.Limits.{Limits}
use Rattle.phase_history.specs.declared.refusal.WaitRefusal.{WaitRefusal}
use Rattle.phase_shared.specs.Blocks.{WaitsBlock, entry_after_values}
use Rattle.phase_shared.specs.Regs.{phaser_lock, phaser_limits}
use Rattle.shared_handle.specs.Members.{Registration, as_registration, limits_by}
use Rattle.shared_handle.specs.Calls.{BlockWaitCall}
use Rattle.shared_handle.proofs.Trying.{limits_same, member_try}
use Rattle.shared_handle.proofs.Waiting.{few_got}
use Rattle.shared_handle.proofs.member.Member.wait_block.Goals as goal

pub returns-clause-call : goal.returns-clause-call
returns-clause-call g c =
    let value = g.A.Accumulate.operation.value in
    let phaser = c.deref-phaser.result.now in
    let old = c.self.inside.loose.reg in
    let new = c.try_wait_block.new.self in
    let before = c.args.out.now in
    let out = c.try_wait_block.new.out in
    let answer = c.try_wait_block.result in
    let at = c.self.invariant ∙ ap phaser_lock (sym c.deref-phaser.ensures) in
    let P : Registration → Type 0 =
    λ m. BlockWaitCall value before out m (as_registration new) answer in
    subst P c.self.view_is
    (member_try _ phaser WaitRefusal.NoTask entry_after_values ((new ≡ old) × (out ≡ before))
    ((as_registration new ≡ as_registration old) × (out ≡ before))
    (WaitsBlock value (phaser_limits phaser) old.number old.seen new.seen before out)
    (WaitsBlock value (limits_by old.at) old.number old.seen new.seen before out)
    old new answer at (λ still. (ap as_registration still.0, still.1))
    (λ told. subst (λ (l : Limits). WaitsBlock value l old.number old.seen new.seen before out told)
    (limits_same phaser old at))
    c.try_wait_block.ensures.call)

pub returns-clause-few : goal.returns-clause-few
returns-clause-few g c = λ first many is.
    few_got _ g.A.Accumulate.operation.value _ _ _ _ c.args.out.now c.try_wait_block.new.out
    c.try_wait_block.result first many c.try_wait_block.ensures.call.call is

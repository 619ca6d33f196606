-- The registration waits.
use Rattle.std.proofs.Common.{◌≡◌, sym, ap, subst, ◌∙◌}
use Rattle.phase_base.specs.Limits.{Limits}
use Rattle.phase_history.specs.declared.refusal.WaitRefusal.{WaitRefusal}
use Rattle.phase_shared.specs.Calls.{Waits}
use Rattle.phase_shared.specs.Entries.{entry_after_wait}
use Rattle.phase_shared.specs.Regs.{phaser_lock, phaser_limits}
use Rattle.shared_handle.specs.Members.{Registration, as_registration, limits_by}
use Rattle.shared_handle.specs.Calls.{WaitCall}
use Rattle.shared_handle.proofs.Trying.{limits_same, member_try}
use Rattle.shared_handle.proofs.member.Member.wait.Goals as goal

pub returns : goal.returns
returns g c =
    let value = g.A.Accumulate.operation.value in
    let phaser = c.deref-phaser.result.now in
    let old = c.self.inside.loose.reg in
    let new = c.try_wait.new.self in
    let answer = c.try_wait.result in
    let at = c.self.invariant ∙ ap phaser_lock (sym c.deref-phaser.ensures) in
    let P : Registration → Type 0 = λ m. WaitCall value m (as_registration new) answer in
    subst P c.self.view_is
    (member_try _ phaser WaitRefusal.NoTask entry_after_wait (new ≡ old)
    (as_registration new ≡ as_registration old)
    (Waits value (phaser_limits phaser) old.number old.seen new.seen)
    (Waits value (limits_by old.at) old.number old.seen new.seen)
    old new answer at (λ still. ap as_registration still)
    (λ told. subst (λ (l : Limits). Waits value l old.number old.seen new.seen told)
    (limits_same phaser old at))
    c.try_wait.ensures.call)

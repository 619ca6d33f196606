-- The registration holds what stands for the values, and signals it.
use Rattle.std.proofs.Common.{◌≡◌, sym, ap, subst, ◌∙◌}
use Rattle.phase_accum.specs.Parcels.{StandsForSends}
use Rattle.phase_history.specs.declared.refusal.SignalRefusal.{SignalRefusal}
use Rattle.phase_shared.specs.Calls.{Signals}
use Rattle.phase_shared.specs.Entries.{entry_after_signal}
use Rattle.phase_shared.specs.Regs.{phaser_lock, phaser_limits}
use Rattle.shared_handle.specs.Members.{Registration, as_registration, limits_by}
use Rattle.shared_handle.specs.Calls.{SignalCall, SignalsSends}
use Rattle.shared_handle.proofs.Trying.{state_same, limits_same, member_try, signals_sends}
use Rattle.shared_handle.proofs.member.Member.signal.Goals as goal

pub returns : goal.returns
returns g c =
    let op = g.A.Accumulate.operation in
    let values = c.args.values.now in
    let single = c.args.single in
    let phaser = c.deref-phaser.result.now in
    let reg = c.self.inside.loose.reg in
    let old = c.hold_these.new.self in
    let new = c.try_signal.new.self in
    let answer = c.try_signal.result in
    let same = c.hold_these.ensures.same in
    let at = same.0 ∙ (c.self.invariant ∙ ap phaser_lock (sym c.deref-phaser.ensures)) in
    let stands =
    subst (λ h. StandsForSends op h values) (sym c.hold_these.ensures.held) c.held.ensures in
    let limits = limits_same phaser old at in
    let P : Registration → Type 0 =
    λ m. SignalCall op.value values single m (as_registration new) answer in
    subst P (state_same old reg same.0 same.1 same.2 same.3 ∙ c.self.view_is)
    (member_try _ phaser SignalRefusal.NoTask entry_after_signal (new ≡ old)
    (as_registration new ≡ as_registration old)
    (Signals op (phaser_limits phaser) old.number old.held single old.seen new.seen)
    (SignalsSends op.value (limits_by old.at) old.number values single old.seen new.seen)
    old new answer at (λ still. ap as_registration still)
    (λ told s. signals_sends op g.met.A.Accumulate.laws (phaser_limits phaser) (limits_by old.at)
    old.number old.held values single old.seen new.seen told limits stands s)
    c.try_signal.ensures.call)

-- The places hold the values, one each, and the registration signals them.
use Rattle.std.proofs.Common.{◌≡◌, ℕ, ◌++◌, length, take, drop, sym, ap, subst, ◌∙◌, arith}
use Rattle.std.proofs.Math.Seq.{take-append_seam}
use Rattle.std.proofs.lemmas.List.{take_all}
use Rattle.phase_core.specs.Blocks.{StandForLists, one_each}
use Rattle.phase_base.specs.Limits.{Limits}
use Rattle.phase_history.specs.declared.refusal.SignalRefusal.{SignalRefusal}
use Rattle.phase_shared.specs.Blocks.{SignalsBlock, SignalsValues, entry_after_block}
use Rattle.phase_shared.specs.Regs.{phaser_lock, phaser_limits}
use Rattle.phase_shared.proofs.OneLists.{signals_values}
use Rattle.shared_handle.specs.Members.{Registration, as_registration, limits_by}
use Rattle.shared_handle.specs.Calls.{IsMemberTry}
use Rattle.shared_handle.proofs.Trying.{state_same, limits_same, member_try}
use Rattle.shared_handle.proofs.member.Member.signal_block.Goals as goal

pub returns-clause-call : goal.returns-clause-call
returns-clause-call g c =
    let op = g.A.Accumulate.operation in
    let values = c.args.values.now in
    let single = c.args.single in
    let phaser = c.deref-phaser.result.now in
    let reg = c.self.inside.loose.reg in
    let old = c.hold_these.new.self in
    let new = c.try_signal_lists.new.self in
    let answer = c.try_signal_lists.result in
    let parcels = c.deref.result.now in
    let same = c.hold_these.ensures.same in
    let at = same.0 ∙ (c.self.invariant ∙ ap phaser_lock (sym c.deref-phaser.ensures)) in
    let limits = limits_same phaser old at in
    let places = c.hold_each.new.places in
    let held = c.hold_each.ensures.places ∙ c.deref_mut.ensures.len in
    let many : length places ≡ length values = held ∙ c.in_ok-places.ensures.len in
    let lent : parcels ≡ places =
    c.deref.ensures.value
    ∙ ap (λ n. take n (places ++ drop (length places) c.in_ok-places.places.items)) (sym held)
    ∙ take-append_seam places (drop (length places) c.in_ok-places.places.items) in
    let all : take (length values) places ≡ parcels =
    take_all (length values) places (omega (arith, many)) ∙ sym lent in
    let stand = subst (λ p. StandForLists op p (one_each values)) all c.hold_each.ensures.stand in
    let P : ℕ → Registration → Type 0 =
    λ n m. IsMemberTry SignalRefusal.NoTask (entry_after_block n) (as_registration new ≡ m)
    (SignalsValues (limits_by m.at) m.number values single m.seen new.seen) m (as_registration new)
    answer in
    subst (P (length values)) (state_same old reg same.0 same.1 same.2 same.3 ∙ c.self.view_is)
    (subst (λ n. P n (as_registration old)) (ap length lent ∙ many)
    (member_try _ phaser SignalRefusal.NoTask (entry_after_block (length parcels)) (new ≡ old)
    (as_registration new ≡ as_registration old)
    (SignalsBlock op (phaser_limits phaser) old.number parcels single old.seen new.seen)
    (SignalsValues (limits_by old.at) old.number values single old.seen new.seen)
    old new answer at (λ still. ap as_registration still)
    (λ told s. signals_values op (limits_by old.at) old.number parcels values single old.seen
    new.seen told g.met.A.Accumulate.laws stand
    (subst (λ (l : Limits). SignalsBlock op l old.number parcels single old.seen new.seen told)
    limits s))
    c.try_signal_lists.ensures.call))

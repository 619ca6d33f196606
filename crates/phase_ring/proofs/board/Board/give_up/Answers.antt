-- Each step gives up the base, for which nobody waits. Some waiter stands above it.
use Rattle.std.proofs.Common.{◌≡◌, ◌<◌, length, sym, ◌∙◌, ap, arith}
use Rattle.phase_ring.specs.declared.role.Role.{Role}
use Rattle.phase_ring.specs.declared.role.Role.TheVariants.{Signaller, Waiter}
use Rattle.phase_ring.specs.Rings.{Ring, standing, released}
use Rattle.phase_ring.specs.Boards.{IsRingAt}
use Rattle.phase_ring.proofs.Slots.{waiter-above, releases, standing-released, KeepsSlots-released}
use Rattle.phase_ring.proofs.board.Board.give_up.Goals as goal

pub loop-self-preserved : goal.loop-self-preserved
loop-self-preserved g c =
    let op = g.A.Accumulate.operation in
    let now = c.loop-self.self in
    let bound = now.limits.bound in
    let kept : IsRingAt op now.ring bound now.done now.top = c.loop-self.invariant.0 in
    let none : standing now.ring Waiter now.ring.base ≡ 0 =
    ap (standing now.ring Waiter) (sym c.base.ensures) ∙ sym c.standing.ensures ∙ c.loop-self-test.true in
    let q = c.requires.waiter.0 in
    let some : 0 < standing now.ring Waiter q = (let a = c.requires.waiter.1 in let b = c.loop-self.invariant.3 Waiter q in omega arith) in
    let below : now.ring.base < now.done = waiter-above op now.ring bound now.done now.top q kept none some in
    let long : 0 < length now.ring.slots = (let l = kept.long in omega arith) in
    let new : c.release.new.self ≡ released op now.ring = c.release.ensures in
    let none_signals : standing now.ring Signaller now.ring.base ≡ 0 = kept.signals_low now.ring.base below in
    let none_of : (role : Role) → standing now.ring role now.ring.base ≡ 0 = λ role. elim role as (λ r. standing now.ring r now.ring.base ≡ 0) [ Signaller ↦ none_signals | Waiter ↦ none ] in (
      (rw new (releases op now.ring bound now.done now.top kept below none)),
      c.loop-self.invariant.1,
      c.loop-self.invariant.2,
      λ role p. (ap (λ (r : Ring g.row.A.Denot). standing r role p) new ∙ standing-released op now.ring role long (none_of role) p ∙ c.loop-self.invariant.3 role p),
      (rw new (λ p slot low found. KeepsSlots-released op now.ring p slot low (c.loop-self.invariant.4 p slot (omega arith) found))),
      c.loop-self.invariant.5,
    )

pub returns-clause-keeps : goal.returns-clause-keeps
returns-clause-keeps g c =
    record { limits = c.loop-self.invariant.5; done = c.loop-self.invariant.1; top = c.loop-self.invariant.2 }

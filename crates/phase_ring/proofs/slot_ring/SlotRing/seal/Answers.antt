-- Only whether one slot is sealed changes, and its sends do not.
use Rattle.std.proofs.Common.{sym, subst}
use Rattle.phase_ring.specs.Slots.{Slot, IsHeld}
use Rattle.phase_ring.proofs.Held.{IsHeld-get, IsRing-set}
use Rattle.phase_ring.proofs.slot_ring.SlotRing.seal.Goals as goal

pub invariant_of-self : goal.invariant_of-self
invariant_of-self g c =
    let op = g.A.Accumulate.operation in
    let items = c.self.inside.slots.items in
    let capacity = c.self.inside.slots.capacity in
    let held = IsHeld-get op items capacity _ c.in-Some.slot.now c.self.invariant (sym c.in-Some.ensures.value) in
    let H : Slot g.row.A.Denot → Type 0 = IsHeld op in
    IsRing-set op items capacity _ _ c.self.invariant (subst H (sym c.seal.ensures) held)

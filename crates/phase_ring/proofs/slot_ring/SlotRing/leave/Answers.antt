-- Only who stands at one slot changes, and its sends do not.
use Rattle.std.proofs.Common.{◌-◌, sym, subst}
use Rattle.phase_ring.specs.Slots.{Slot, IsHeld, with_standing, standing_of}
use Rattle.phase_ring.proofs.Held.{IsHeld-get, IsRing-set, IsHeld-standing}
use Rattle.phase_ring.proofs.slot_ring.SlotRing.leave.Goals as goal

pub invariant_of-self : goal.invariant_of-self
invariant_of-self g c =
    let op = g.A.Accumulate.operation in
    let items = c.self.inside.slots.items in
    let capacity = c.self.inside.slots.capacity in
    let slot = c.in-Some.slot.now in
    let held = IsHeld-get op items capacity _ slot c.self.invariant (sym c.in-Some.ensures.value) in
    let H : Slot g.row.A.Denot → Type 0 = IsHeld op in
    IsRing-set op items capacity _ _ c.self.invariant
    (subst H {x = with_standing c.args.role (standing_of c.args.role slot - 1) slot} (sym c.leave.ensures) (IsHeld-standing op c.args.role (standing_of c.args.role slot - 1) slot held))

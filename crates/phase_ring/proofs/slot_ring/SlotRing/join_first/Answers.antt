-- The slot then stands for their sends.
use Rattle.std.proofs.Common.{sym}
use Rattle.phase_ring.proofs.Held.{IsRing-set}
use Rattle.phase_ring.proofs.slot_ring.SlotRing.join_first.Goals as goal

pub join_first-requires : goal.join_first-requires
join_first-requires g c =
    let slot = c.in-Some.slot.now in
    c.requires.unused slot (rw (← c.self.view_is) (sym c.in-Some.ensures.value))

pub invariant_of-self : goal.invariant_of-self
invariant_of-self g c =
    IsRing-set g.A.Accumulate.operation c.self.inside.slots.items c.self.inside.slots.capacity _ _ c.self.invariant c.join_first.ensures.held

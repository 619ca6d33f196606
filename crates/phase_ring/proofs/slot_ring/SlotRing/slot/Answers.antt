-- Each slot stands for some sends.
use Rattle.std.proofs.Common.{sym}
use Rattle.phase_ring.proofs.Held.{IsHeld-get}
use Rattle.phase_ring.proofs.slot_ring.SlotRing.slot.Goals as goal

pub returns-clause-held : goal.returns-clause-held
returns-clause-held g c =
    IsHeld-get g.A.Accumulate.operation c.self.inside.slots.items c.self.inside.slots.capacity _ _ c.self.invariant (sym c.in-Some.ensures)

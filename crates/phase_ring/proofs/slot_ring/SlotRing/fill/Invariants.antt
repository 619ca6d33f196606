-- As many empty slots as were counted.
use Rattle.std.proofs.Common.{◌≡◌, replicate}
use Rattle.phase_ring.specs.Slots.{empty_slot}
use Rattle.phase_ring.proofs.slot_ring.SlotRing.fill.Given as goal

abbrev pub invariant-loop : goal.invariant-loop
invariant-loop g l =
    (l.slots.items ≡ replicate l.counter (empty_slot g.A.Accumulate.operation))
    × (l.slots.capacity ≡ l.fn.slots.capacity)

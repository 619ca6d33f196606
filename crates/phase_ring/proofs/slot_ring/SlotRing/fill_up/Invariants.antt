-- As many empty slots as were counted stand behind those that were there.
use Rattle.std.proofs.Common.{◌≡◌, ◌-◌, ◌≤◌, ◌++◌, length, replicate}
use Rattle.phase_ring.specs.Slots.{empty_slot}
use Rattle.phase_ring.proofs.slot_ring.SlotRing.fill_up.Given as goal

abbrev pub invariant-loop : goal.invariant-loop
invariant-loop g l =
    (l.slots.items ≡ l.fn.slots.items
    ++ replicate (l.counter - length l.fn.slots.items) (empty_slot g.A.Accumulate.operation))
    × (l.slots.capacity ≡ l.fn.slots.capacity)
    × (length l.fn.slots.items ≤ l.counter)

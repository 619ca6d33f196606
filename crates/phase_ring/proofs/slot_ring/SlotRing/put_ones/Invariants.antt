-- The slots of the values before this one stand behind those that were there.
use Rattle.std.proofs.Common.{◌≡◌, ◌++◌, map, take}
use Rattle.phase_ring.specs.Restarts.{one_slot}
use Rattle.phase_ring.proofs.slot_ring.SlotRing.put_ones.Given as goal

abbrev pub invariant-loop-value : goal.invariant-loop-value
invariant-loop-value g l =
    (l.slots.items ≡ l.fn.slots.items
    ++ map (one_slot g.A.Accumulate.operation) (take l.value-index l.values))
    × (l.slots.capacity ≡ l.fn.slots.capacity)

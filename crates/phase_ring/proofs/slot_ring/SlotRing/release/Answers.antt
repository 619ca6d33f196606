-- As many slots as before, each of which stands for some sends.
use Rattle.std.proofs.Common.{◌≡◌, ◌++◌, [], ◌∷◌, drop, ap, ◌∙◌}
use Rattle.circular_buffer.specs.Buffer.{buffer}
use Rattle.phase_ring.proofs.Held.{IsRing-released, moved_items}
use Rattle.phase_ring.proofs.slot_ring.SlotRing.release.Goals as goal

pub invariant_of-self : goal.invariant_of-self
invariant_of-self g c =
    let op = g.A.Accumulate.operation in
    let xs = c.self.inside.slots.items in
    let n = c.self.inside.slots.capacity in
    let is : c.push_back.new.self ≡ buffer (drop 1 xs ++ c.empty.result ∷ []) n =
    c.push_back.ensures.items ∙ ap (λ ys. buffer ys n) (moved_items xs c.empty.result n c.self.invariant.some c.self.invariant.full) in
    rw is (IsRing-released op xs n c.empty.result c.self.invariant c.empty.ensures.held)

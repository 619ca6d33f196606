-- Each slot stands for one send, or for none.
use Rattle.std.proofs.Common.{◌≡◌, ◌-◌, ◌++◌, length, map, replicate, sym, ap, ap₂, ◌∙◌, arith, length-append}
use Rattle.std.proofs.lemmas.List.{length-map, map-append}
use Rattle.circular_buffer.specs.Buffer.{buffer}
use Rattle.phase_ring.specs.Restarts.{one_slot, ring_of_ones}
use Rattle.phase_ring.specs.Slots.{empty_slot}
use Rattle.phase_accum.proofs.Parts.{AreSends-append}
use Rattle.phase_ring.proofs.Held.{IsRing-ones}
use Rattle.phase_ring.proofs.slot_ring.SlotRing.restart.Goals as goal

pub invariant_of-self : goal.invariant_of-self
invariant_of-self g c =
    let op = g.A.Accumulate.operation in
    let front = c.args.front.now in
    let back = c.args.back.now in
    let n = length c.self.inside.slots.items in
    let first : c.put_ones.new.slots ≡ buffer (map (one_slot op) front) n =
    c.put_ones.ensures ∙ ap₂ (λ xs capacity. buffer (xs ++ map (one_slot op) front) capacity)
    (ap (λ b. b.items) c.clear.ensures) (ap (λ b. b.capacity) c.clear.ensures ∙ c.self.invariant.full) in
    let both : c.put_ones-2.new.slots ≡ buffer (map (one_slot op) (front ++ back)) n =
    c.put_ones-2.ensures ∙ (ap₂ (λ xs capacity. buffer (xs ++ map (one_slot op) back) capacity)
    (ap (λ b. b.items) first) (ap (λ b. b.capacity) first)
    ∙ ap (λ xs. buffer xs n) (sym (map-append (one_slot op) front back))) in
    let all : c.fill_up.new.slots ≡ buffer (ring_of_ones op n c.args.base (front ++ back)).slots n =
    c.fill_up.ensures ∙ (ap (λ b. buffer (b.items
    ++ replicate (b.capacity - length b.items) (empty_slot op)) b.capacity) both
    ∙ ap (λ m. buffer (map (one_slot op) (front ++ back)
    ++ replicate (n - m) (empty_slot op)) n) (length-map (front ++ back) (one_slot op))) in
    IsRing-ones op n c.args.base (front ++ back) c.fill_up.new.slots
    g.met.A.Accumulate.laws (AreSends-append front back c.requires.sends.0 c.requires.sends.1)
    c.self.invariant.some
    (omega (arith, length-append front back, c.requires.room, ap (λ r. length r.slots) c.self.view_is))
    (ap (λ b. b.items) all) (ap (λ b. b.capacity) all)

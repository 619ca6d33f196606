-- One more slot.
use Rattle.std.proofs.Common.{rules, ◌≡◌, ◌+◌, ◌≤◌, [], ◌∷◌, ◌++◌, length, pos, get_or, refl, ap, ◌∙◌, arith, SFits, w64, to_z-of_z}
use Rattle.circular_buffer.specs.Buffer.{buffer, keep_last}
use Rattle.phase_ring.specs.Restarts.{one_slot}
use Rattle.phase_ring.proofs.Held.{AreSends-at, ones-more}
use Rattle.phase_ring.proofs.slot_ring.SlotRing.put_ones.Goals as goal

pub of_one-requires : goal.of_one-requires
of_one-requires g c =
    let i = c.loop-value.value-index in
    let values = c.args.values.now in
    let fits : SFits w64 (get_or values i (pos 0)) = search rules in
    rw (to_z-of_z fits) (AreSends-at values i (pos 0) c.requires.sends c.loop-value-test.true)

pub loop-value-preserved : goal.loop-value-preserved
loop-value-preserved g c =
    let op = g.A.Accumulate.operation in
    let i = c.loop-value.value-index in
    let values = c.args.values.now in
    let old = c.loop-value.slots in
    let fits : SFits w64 (get_or values i (pos 0)) = search rules in
    let one : c.of_one.result ≡ one_slot op (get_or values i (pos 0)) =
    c.of_one.ensures.value ∙ ap (one_slot op) (to_z-of_z fits) in
    let room : length c.args.slots.now.items + length values ≤ old.capacity =
    omega (arith, c.requires.room, c.loop-value.invariant.1) in
    let pushed : c.push_back.new.self
    ≡ buffer (keep_last old.capacity (old.items ++ one_slot op (get_or values i (pos 0)) ∷ []))
    old.capacity =
    c.push_back.ensures.items
    ∙ ap (λ x. buffer (keep_last old.capacity (old.items ++ x ∷ [])) old.capacity) one in (
      ap (λ b. b.items) pushed ∙ ones-more (one_slot op) c.args.slots.now.items old.items values
          (get_or values i (pos 0)) i old.capacity c.loop-value.invariant.0 c.loop-value-test.true
          refl room,
      ap (λ b. b.capacity) pushed ∙ c.loop-value.invariant.1,
    )

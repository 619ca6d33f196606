-- One more empty slot.
use Rattle.std.proofs.Common.{◌≡◌, ◌-◌, ◌<◌, [], ◌∷◌, ◌++◌, length, replicate, refl, sym, ap, ap₂, ◌∙◌, arith, append-nil}
use Rattle.circular_buffer.specs.Buffer.{buffer, keep_last}
use Rattle.phase_ring.specs.Slots.{empty_slot}
use Rattle.phase_ring.proofs.Held.{filled-more}
use Rattle.phase_ring.proofs.slot_ring.SlotRing.fill_up.Goals as goal

pub loop-init : goal.loop-init
loop-init g c =
    let items = c.args.slots.now.items in
    let none : c.len-counter.result - length items ≡ 0 = omega (arith, c.len-counter.ensures.len) in (
      sym (ap (λ n. items ++ replicate n (empty_slot g.A.Accumulate.operation)) none
          ∙ append-nil items),
      refl,
      omega (arith, c.len-counter.ensures.len),
    )

pub loop-preserved : goal.loop-preserved
loop-preserved g c =
    let empty = empty_slot g.A.Accumulate.operation in
    let old = c.loop.slots in
    let room : c.loop.counter < old.capacity =
    omega (arith, c.loop-test.true, c.capacity-end.ensures.capacity, c.loop.invariant.1) in
    let pushed : c.push_back.new.self ≡ buffer (keep_last old.capacity (old.items ++ empty ∷ []))
    old.capacity =
    c.push_back.ensures.items
    ∙ ap (λ x. buffer (keep_last old.capacity (old.items ++ x ∷ [])) old.capacity)
    c.empty.ensures.value in (
      ap (λ b. b.items) pushed ∙ filled-more c.args.slots.now.items old.items empty c.loop.counter
          old.capacity c.loop.invariant.0 c.loop.invariant.2 room,
      ap (λ b. b.capacity) pushed ∙ c.loop.invariant.1,
      omega (arith, c.loop.invariant.2),
    )

pub returns : goal.returns
returns g c =
    let empty = empty_slot g.A.Accumulate.operation in
    let items = c.args.slots.now.items in
    let capacity = c.args.slots.now.capacity in
    let held = c.capacity-end.ensures.within in
    let many : c.loop.counter ≡ capacity =
    omega (arith, c.loop-test.false, c.capacity-end.ensures.capacity, c.loop.auto.counter-end) in
    ap₂ buffer
    (c.loop.invariant.0 ∙ ap (λ n. items ++ replicate (n - length items) empty) many)
    c.loop.invariant.1

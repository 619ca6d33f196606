-- The slots of the ring, call by call.
use Rattle.std.proofs.Common.{◌≡◌, ℕ, ℤ, ◌+◌, ◌<◌, None, Some, length, subst, sym, ◌∙◌, ap, arith}
use Rattle.phase_accum.specs.Sums.{sum_operation}
use Rattle.phase_ring.specs.Slots.{empty_slot, joined, sealed}
use Rattle.phase_ring.specs.Rings.{Ring, IsWithin, fresh_ring, slot_at, with_slot, is_sealed}
use Rattle.core_tests.proofs.slots.a_sealed_phase_has_the_value_of_its_sends.Goals as goal

pub seal-requires-clause-within : goal.seal-requires-clause-within
seal-requires-clause-within g c =
    let e = empty_slot sum_operation in
    let j = joined sum_operation c.send.new.self None e in
    let merged : c.merge.new.self ≡ with_slot 0 j (fresh_ring sum_operation 2) =
    (c.in_default.ensures.ok e (ap (λ (r : Ring ℤ). slot_at r 0) c.in_ok-ring.ensures)).1 ∙ ap (with_slot 0 j) c.in_ok-ring.ensures in
    let W : Ring ℤ → Type 0 = λ r. IsWithin r 0 in
    subst W (sym merged) (record { low = omega arith; high = omega arith })

pub seal-requires-clause-below : goal.seal-requires-clause-below
seal-requires-clause-below g c =
    let e = empty_slot sum_operation in
    let j = joined sum_operation c.send.new.self None e in
    let merged : c.merge.new.self ≡ with_slot 0 j (fresh_ring sum_operation 2) =
    (c.in_default.ensures.ok e (ap (λ (r : Ring ℤ). slot_at r 0) c.in_ok-ring.ensures)).1 ∙ ap (with_slot 0 j) c.in_ok-ring.ensures in
    let H : Ring ℤ → Type 0 = λ r. 1 < r.base + length r.slots in
    subst H (sym merged) (omega arith)

pub seal-requires-clause-incomplete : goal.seal-requires-clause-incomplete
seal-requires-clause-incomplete g c =
    let e = empty_slot sum_operation in
    let j = joined sum_operation c.send.new.self None e in
    let merged : c.merge.new.self ≡ with_slot 0 j (fresh_ring sum_operation 2) =
    (c.in_default.ensures.ok e (ap (λ (r : Ring ℤ). slot_at r 0) c.in_ok-ring.ensures)).1 ∙ ap (with_slot 0 j) c.in_ok-ring.ensures in
    ap (λ (r : Ring ℤ). is_sealed r 0) merged

pub value-requires-clause-within : goal.value-requires-clause-within
value-requires-clause-within g c =
    let e = empty_slot sum_operation in
    let j = joined sum_operation c.send.new.self None e in
    let merged : c.merge.new.self ≡ with_slot 0 j (fresh_ring sum_operation 2) =
    (c.in_default.ensures.ok e (ap (λ (r : Ring ℤ). slot_at r 0) c.in_ok-ring.ensures)).1 ∙ ap (with_slot 0 j) c.in_ok-ring.ensures in
    let done : c.seal.new.self ≡ with_slot 0 (sealed j) (with_slot 0 j (fresh_ring sum_operation 2)) =
    c.seal.ensures j (ap (λ (r : Ring ℤ). slot_at r 0) merged) ∙ ap (with_slot 0 (sealed j)) merged in
    let W : Ring ℤ → Type 0 = λ r. IsWithin r 0 in
    subst W (sym done) (record { low = omega arith; high = omega arith })

pub value-requires-clause-complete : goal.value-requires-clause-complete
value-requires-clause-complete g c =
    let e = empty_slot sum_operation in
    let j = joined sum_operation c.send.new.self None e in
    let merged : c.merge.new.self ≡ with_slot 0 j (fresh_ring sum_operation 2) =
    (c.in_default.ensures.ok e (ap (λ (r : Ring ℤ). slot_at r 0) c.in_ok-ring.ensures)).1 ∙ ap (with_slot 0 j) c.in_ok-ring.ensures in
    let done : c.seal.new.self ≡ with_slot 0 (sealed j) (with_slot 0 j (fresh_ring sum_operation 2)) =
    c.seal.ensures j (ap (λ (r : Ring ℤ). slot_at r 0) merged) ∙ ap (with_slot 0 (sealed j)) merged in
    ap (λ (r : Ring ℤ). is_sealed r 0) done

-- The slots of the ring, call by call.
use Rattle.std.proofs.Common.{◌≡◌, ℕ, ℤ, ◌+◌, ◌<◌, Some, subst, sym, ◌∙◌, ap, arith}
use Rattle.phase_accum.specs.Sums.{sum_operation}
use Rattle.phase_ring.specs.declared.role.Role.TheVariants.{Waiter}
use Rattle.phase_ring.specs.Slots.{empty_slot, with_standing}
use Rattle.phase_ring.specs.Rings.{Ring, IsWithin, fresh_ring, slot_at, with_slot, standing}
use Rattle.core_tests.proofs.slots.tasks_come_and_go.Goals as goal

pub standing-requires : goal.standing-requires
standing-requires g c =
    let e = empty_slot sum_operation in
    let one = with_standing Waiter 1 e in
    let entered : c.enter.new.self ≡ with_slot 0 one (fresh_ring sum_operation 2) =
    c.enter.ensures e (ap (λ (r : Ring ℤ). slot_at r 0) c.in_ok-ring.ensures) ∙ ap (with_slot 0 one) c.in_ok-ring.ensures in
    let W : Ring ℤ → Type 0 = λ r. IsWithin r 0 in
    subst W (sym entered) (record { low = omega arith; high = omega arith })

pub release-requires-clause-far : goal.release-requires-clause-far
release-requires-clause-far g c =
    let e = empty_slot sum_operation in
    let one = with_standing Waiter 1 e in
    let none = with_standing Waiter 0 one in
    let entered : c.enter.new.self ≡ with_slot 0 one (fresh_ring sum_operation 2) =
    c.enter.ensures e (ap (λ (r : Ring ℤ). slot_at r 0) c.in_ok-ring.ensures) ∙ ap (with_slot 0 one) c.in_ok-ring.ensures in
    let left : c.leave.new.self ≡ with_slot 0 none (with_slot 0 one (fresh_ring sum_operation 2)) =
    c.leave.ensures one (ap (λ (r : Ring ℤ). slot_at r 0) entered) ∙ ap (with_slot 0 none) entered in
    let base : c.leave.new.self.base ≡ 0 = ap (λ (r : Ring ℤ). r.base) left in
    omega arith

pub release-requires-clause-unwanted : goal.release-requires-clause-unwanted
release-requires-clause-unwanted g c =
    let e = empty_slot sum_operation in
    let one = with_standing Waiter 1 e in
    let none = with_standing Waiter 0 one in
    let entered : c.enter.new.self ≡ with_slot 0 one (fresh_ring sum_operation 2) =
    c.enter.ensures e (ap (λ (r : Ring ℤ). slot_at r 0) c.in_ok-ring.ensures) ∙ ap (with_slot 0 one) c.in_ok-ring.ensures in
    let left : c.leave.new.self ≡ with_slot 0 none (with_slot 0 one (fresh_ring sum_operation 2)) =
    c.leave.ensures one (ap (λ (r : Ring ℤ). slot_at r 0) entered) ∙ ap (with_slot 0 none) entered in
    ap (λ (r : Ring ℤ). standing r Waiter r.base) left

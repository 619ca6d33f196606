-- A ring of empty slots, and one with a task at phase 0.
use Rattle.std.proofs.Common.{◌≡◌, ℕ, ◌+◌, ◌-◌, Some, replicate, zero, suc, refl, sym, ◌∙◌, ap, arith, ⊎_elim, ◌⊎◌, inl, inr}
use Rattle.std.specs.Prelude.{slice_get}
use Rattle.std.proofs.lemmas.List.{length-replicate}
use Rattle.std.proofs.lemmas.Option.{same_Some}
use Rattle.std.proofs.lemmas.Bool.{le-ltb, cases_eq}
use Rattle.phase_accum.specs.Operations.{Operation}
use Rattle.phase_ring.specs.declared.role.Role.{Role}
use Rattle.phase_ring.specs.declared.role.Role.TheVariants.{Signaller, Waiter}
use Rattle.phase_ring.specs.Slots.{Slot, empty_slot, standing_of, with_standing}
use Rattle.phase_ring.specs.Rings.{Ring, IsWithin, fresh_ring, slot_at, with_slot, standing, standing_in}
use Rattle.phase_ring.specs.Standings.{one_if_same}
use Rattle.phase_ring.specs.Boards.{IsRingAt}
use Rattle.phase_ring.proofs.Slots.{empty-standing, standing-in}
use Rattle.phase_ring.proofs.Moves.{Moves, enters, one-same, one-other}

-- ---- empty slots

slice_get-replicate : {X : Type 0} (n i : ℕ) (x y : X) → slice_get (replicate n x) i ≡ Some y → x ≡ y
slice_get-replicate zero i x y found = absurd (cc)
slice_get-replicate (suc n) zero x y found = same_Some _ _ found
slice_get-replicate (suc n) (suc i) x y found = slice_get-replicate n i x y found

standing_in-fresh : {A : Type 0} (op : Operation A) (role : Role) (n i : ℕ) → standing_in role (slice_get (replicate n (empty_slot op)) i) ≡ 0
standing_in-fresh op role zero i = refl
standing_in-fresh op role (suc n) zero = empty-standing op role
standing_in-fresh op role (suc n) (suc i) = standing_in-fresh op role n i

standing-fresh : {A : Type 0} (op : Operation A) (n : ℕ) (role : Role) (p : ℕ) → standing (fresh_ring op n) role p ≡ 0
standing-fresh op n role p = standing-in (fresh_ring op n) role p (omega arith) ∙ standing_in-fresh op role n (p - 0)

kept_fresh : {A : Type 0} (op : Operation A) (bound : ℕ) → IsRingAt op (fresh_ring op (bound + 1)) bound 0 0
kept_fresh {A} op bound = record {
  long = length-replicate (bound + 1) (empty_slot op);
  base_done = omega arith;
  done_top = omega arith;
  top_bound = omega arith;
  top_far = omega arith;
  signals_low = λ p low. standing-fresh op (bound + 1) Signaller p;
  signals_high = λ p high. standing-fresh op (bound + 1) Signaller p;
  waits_high = λ p high. standing-fresh op (bound + 1) Waiter p;
  sealed_below = λ p slot low found.
      ap (λ (s : Slot A). s.sealed) (sym (slice_get-replicate (bound + 1) (p - 0) (empty_slot op) slot found)) ∙ sym (le-ltb p 0 (omega arith));
  unused = λ p slot low found above.
      rw (← (slice_get-replicate (bound + 1) (p - 0) (empty_slot op) slot found)) (record { part_is = refl; count_is = refl; named_is = refl });
}

-- ---- one task at phase 0

pub fresh_within : {A : Type 0} (op : Operation A) (bound : ℕ) (r : Ring A) → r ≡ fresh_ring op (bound + 1) → IsWithin r 0
fresh_within {A} op bound r same =
    let long = length-replicate (bound + 1) (empty_slot op) in
    rw same (record { low = omega arith; high = omega arith })

pub fresh_few : {A : Type 0} (op : Operation A) (bound : ℕ) (r : Ring A) (role : Role) (p : ℕ) → r ≡ fresh_ring op (bound + 1) → standing r role p ≡ 0
fresh_few {A = A} op bound r role p same = ap (λ (x : Ring A). standing x role p) same ∙ standing-fresh op (bound + 1) role p

-- a signaller stands at phase 0
pub first_entered : {A : Type 0} (op : Operation A) (bound : ℕ) (r r1 : Ring A) → r ≡ fresh_ring op (bound + 1)
    → ((slot : Slot A) → slot_at r 0 ≡ Some slot → r1 ≡ with_slot 0 (with_standing Signaller (standing_of Signaller slot + 1) slot) r)
    → Moves op r r1 bound 0 0 Signaller 0 (standing r Signaller 0 + 1)
first_entered {A} op bound r r1 same entered =
    enters op r r1 bound 0 0 0 Signaller (rw same (kept_fresh op bound)) (fresh_within op bound r same) (omega arith, omega arith) entered

pub next_within : {A : Type 0} (op : Operation A) (bound : ℕ) (r r1 : Ring A) → r ≡ fresh_ring op (bound + 1)
    → Moves op r r1 bound 0 0 Signaller 0 (standing r Signaller 0 + 1) → IsWithin r1 0
next_within {A = A} op bound r r1 same m =
    let long = m.kept.long in
    let base : r1.base ≡ r.base = m.base_same in
    let zero_base : r.base ≡ 0 = ap (λ (x : Ring A). x.base) same in
    record { low = omega arith; high = omega arith }

-- and a waiter
pub record Founded {A : Type 0} (op : Operation A) (r : Ring A) (bound : ℕ) : Type 0 where
  pub kept : IsRingAt op r bound 0 0
  pub base : r.base ≡ 0
  pub stands : (role : Role) (p : ℕ) → standing r role p ≡ one_if_same 0 p

pub founded : {A : Type 0} (op : Operation A) (bound : ℕ) (r r1 r2 : Ring A) → r ≡ fresh_ring op (bound + 1)
    → ((slot : Slot A) → slot_at r 0 ≡ Some slot → r1 ≡ with_slot 0 (with_standing Signaller (standing_of Signaller slot + 1) slot) r)
    → ((slot : Slot A) → slot_at r1 0 ≡ Some slot → r2 ≡ with_slot 0 (with_standing Waiter (standing_of Waiter slot + 1) slot) r1)
    → Founded op r2 bound
founded {A = A} op bound r r1 r2 same first second =
    let m = first_entered op bound r r1 same first in
    let n = enters op r1 r2 bound 0 0 0 Waiter m.kept (next_within op bound r r1 same m) (omega arith) second in
    let at : (role : Role) (p : ℕ) → (standing r2 role p ≡ standing r role p + 1) ⊎ (p ≡ 0 → ⊥) → (p ≡ 0) ⊎ (standing r2 role p ≡ standing r role p)
    → standing r2 role p ≡ one_if_same 0 p = λ role p one none.
    let z = fresh_few op bound r role p same in
    ⊎_elim
    (λ here. let i = one-same 0 p here in ⊎_elim (λ e. omega arith) (λ apart. absurd (apart here)) one)
    (λ apart. let i = one-other 0 p apart in ⊎_elim (λ here. absurd (apart here)) (λ e. omega arith) none)
    (cases_eq p 0) in
    record {
      kept = n.kept;
      base = n.base_same ∙ m.base_same ∙ ap (λ (x : Ring A). x.base) same;
      stands = λ role p. elim role as (λ ro. standing r2 ro p ≡ one_if_same 0 p) [
        | Signaller ↦ at Signaller p
            (⊎_elim (λ here. inl (n.others p ∙ ap (standing r1 Signaller) here ∙ m.at ∙ ap (λ q. standing r Signaller q + 1) (sym here))) (λ apart. inr apart) (cases_eq p 0))
            (⊎_elim (λ here. inl here) (λ apart. inr (n.others p ∙ m.apart p apart)) (cases_eq p 0))
        | Waiter ↦ at Waiter p
            (⊎_elim (λ here. inl (ap (standing r2 Waiter) here ∙ n.at ∙ ap (λ q. q + 1) (m.others 0) ∙ ap (λ q. standing r Waiter q + 1) (sym here))) (λ apart. inr apart) (cases_eq p 0))
            (⊎_elim (λ here. inl here) (λ apart. inr (n.apart p apart ∙ m.others p)) (cases_eq p 0))
      ];
    }

-- Somebody leaves a phase of a ring, or enters it.
use Rattle.std.proofs.Common.{◌≡◌, ℕ, ◌+◌, ◌-◌, cond, Some, refl, sym, ap}
use Rattle.std.proofs.lemmas.Bool.{eq-eqb, ne_eqb}
use Rattle.phase_accum.specs.Operations.{Operation}
use Rattle.phase_ring.specs.declared.role.Role.{Role}
use Rattle.phase_ring.specs.declared.role.Role.TheVariants.{Signaller, Waiter}
use Rattle.phase_ring.specs.Rings.{Ring, IsWithin, slot_at, with_slot, standing, sents}
use Rattle.phase_ring.specs.Slots.{Slot, with_standing, standing_of}
use Rattle.phase_ring.specs.Standings.{one_if_same, other}
use Rattle.phase_ring.specs.Boards.{IsRingAt}
use Rattle.phase_ring.proofs.Slots.{IsPlace, slot_at-some, standing-at, standing-with_at, standing-with_other, standing-with_same, sents-with, stands}

pub one-same : (q p : ℕ) → p ≡ q → one_if_same q p ≡ 1
one-same q p e = ap (λ b. cond b 1 0) (eq-eqb q p (sym e))

pub one-other : (q p : ℕ) → (p ≡ q → ⊥) → one_if_same q p ≡ 0
one-other q p apart = ap (λ b. cond b 1 0) (ne_eqb q p (λ e. apart (sym e)))

-- a number of the role stands at a phase now
pub record Moves {A : Type 0} (op : Operation A) (r new : Ring A) (bound done top : ℕ) (role : Role) (q n : ℕ) : Type 0 where
  pub kept : IsRingAt op new bound done top
  pub base_same : new.base ≡ r.base
  pub sents_same : sents new ≡ sents r
  pub at : standing new role q ≡ n
  pub apart : (p : ℕ) → (p ≡ q → ⊥) → standing new role p ≡ standing r role p
  pub others : (p : ℕ) → standing new (other role) p ≡ standing r (other role) p

moves_on : {A : Type 0} (op : Operation A) (r : Ring A) (bound done top q n : ℕ) (slot : Slot A) (role : Role)
    → IsRingAt op r bound done top → IsWithin r q → IsPlace role q done top → slot_at r q ≡ Some slot
    → Moves op r (with_slot q (with_standing role n slot) r) bound done top role q n
moves_on op r bound done top q n slot Signaller k w place found = record {
  kept = stands op r bound done top q n slot Signaller k w found place;
  base_same = refl;
  sents_same = sents-with r q slot (with_standing Signaller n slot) found refl;
  at = standing-with_at r q (with_standing Signaller n slot) Signaller w;
  apart = λ p apart. standing-with_other r q (with_standing Signaller n slot) Signaller p w.low apart;
  others = λ p. standing-with_same r q slot (with_standing Signaller n slot) Waiter w found refl p;
}
moves_on op r bound done top q n slot Waiter k w place found = record {
  kept = stands op r bound done top q n slot Waiter k w found place;
  base_same = refl;
  sents_same = sents-with r q slot (with_standing Waiter n slot) found refl;
  at = standing-with_at r q (with_standing Waiter n slot) Waiter w;
  apart = λ p apart. standing-with_other r q (with_standing Waiter n slot) Waiter p w.low apart;
  others = λ p. standing-with_same r q slot (with_standing Waiter n slot) Signaller w found refl p;
}

-- one leaves
pub leaves : {A : Type 0} (op : Operation A) (r new : Ring A) (bound done top q : ℕ) (role : Role)
    → IsRingAt op r bound done top → IsWithin r q → IsPlace role q done top
    → ((slot : Slot A) → slot_at r q ≡ Some slot → new ≡ with_slot q (with_standing role (standing_of role slot - 1) slot) r)
    → Moves op r new bound done top role q (standing r role q - 1)
leaves {A} op r new bound done top q role k w place left =
    let slot = slot_at-some r q w in
    let n : standing r role q ≡ standing_of role slot.0 = standing-at r role q slot.0 w.low slot.1 in
    rw (left slot.0 slot.1) (rw n (moves_on op r bound done top q (standing_of role slot.0 - 1) slot.0 role k w place slot.1))

-- one enters
pub enters : {A : Type 0} (op : Operation A) (r new : Ring A) (bound done top q : ℕ) (role : Role)
    → IsRingAt op r bound done top → IsWithin r q → IsPlace role q done top
    → ((slot : Slot A) → slot_at r q ≡ Some slot → new ≡ with_slot q (with_standing role (standing_of role slot + 1) slot) r)
    → Moves op r new bound done top role q (standing r role q + 1)
enters {A} op r new bound done top q role k w place entered =
    let slot = slot_at-some r q w in
    let n : standing r role q ≡ standing_of role slot.0 = standing-at r role q slot.0 w.low slot.1 in
    rw (entered slot.0 slot.1) (rw n (moves_on op r bound done top q (standing_of role slot.0 + 1) slot.0 role k w place slot.1))

-- A ring of slots: the slots of so many phases in a row, the first of which is the base.
use Rattle.std.specs.Prelude.{◌≡◌, ℕ, ◌+◌, ◌-◌, ◌<◌, ◌≤◌, List, [], ◌∷◌, ◌++◌, Option, Some, None, Bool, false, length, map, replicate, drop, slice_get, slice_set, if◌then◌else◌, nat_lt}
use Rattle.std.specs.List.{All}
use Rattle.phase_accum.specs.Operations.{Operation}
use Rattle.phase_ring.specs.declared.role.Role.{Role}
use Rattle.phase_ring.specs.Slots.{Slot, empty_slot, standing_of, sent, IsHeld}

-- the phase of the first slot, and the slots
pub record Ring (A : Type 0) : Type 0 where
  pub base : ℕ
  pub slots : List (Slot A)

-- these two as a ring
abbrev pub ring : {A : Type 0} → ℕ → List (Slot A) → Ring A
ring base slots = record { base = base; slots = slots }

-- the phase has a slot
pub record IsWithin {A : Type 0} (r : Ring A) (phase : ℕ) : Type 0 where
  pub low : r.base ≤ phase
  pub high : phase < r.base + length r.slots

-- the slot of a phase that is not below the base
abbrev pub slot_at : {A : Type 0} → Ring A → ℕ → Option (Slot A)
slot_at r phase = slice_get r.slots (phase - r.base)

-- the ring with this slot for the phase
abbrev pub with_slot : {A : Type 0} → ℕ → Slot A → Ring A → Ring A
with_slot phase slot r = ring r.base (slice_set r.slots (phase - r.base) slot)

-- whether there is a slot and it is sealed
abbrev pub sealed_in : {A : Type 0} → Option (Slot A) → Bool
sealed_in None = false
sealed_in (Some slot) = slot.sealed

-- whether the slot of a phase is sealed
abbrev pub is_sealed : {A : Type 0} → Ring A → ℕ → Bool
is_sealed r phase = sealed_in (slot_at r phase)

-- how many of a role stand at a slot, none where there is no slot
abbrev pub standing_in : {A : Type 0} → Role → Option (Slot A) → ℕ
standing_in role None = 0
standing_in role (Some slot) = standing_of role slot

-- how many of the role stand at a phase, none outside the ring
abbrev pub standing : {A : Type 0} → Ring A → Role → ℕ → ℕ
standing r role phase = if nat_lt phase r.base then 0 else standing_in role (slot_at r phase)

-- what the slots have of their phases' sends, and nothing else
abbrev pub sents : {A : Type 0} → Ring A → Ring A
sents r = ring r.base (map sent r.slots)

-- the slots that the new ring still has are the old one's
abbrev pub KeepsSlots : {A : Type 0} → Ring A → Ring A → Type 0
KeepsSlots {A} old new = (p : ℕ) (slot : Slot A)
    → new.base ≤ p → slot_at old p ≡ Some slot → slot_at new p ≡ Some slot

-- ---- whole rings

-- n slots of phases that nobody has joined
abbrev pub fresh_ring : {A : Type 0} → Operation A → ℕ → Ring A
fresh_ring op n = ring 0 (replicate n (empty_slot op))

-- the ring without its first slot, and with an empty one behind the last
abbrev pub released : {A : Type 0} → Operation A → Ring A → Ring A
released op r = ring (r.base + 1) (drop 1 r.slots ++ empty_slot op ∷ [])

-- the ring with every slot empty
abbrev pub cleared : {A : Type 0} → Operation A → Ring A → Ring A
cleared op r = ring r.base (replicate (length r.slots) (empty_slot op))

-- for the code: there is a first slot, no more fit, and each stands for some sends
pub record IsRing {A : Type 0} (op : Operation A) (slots : List (Slot A)) (capacity : ℕ)
    : Type 0 where
  pub some : 0 < length slots
  pub full : capacity ≡ length slots
  pub held : All (IsHeld op) slots

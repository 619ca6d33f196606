-- The slots of a ring, as the slots of a core.
use Rattle.std.proofs.Common.{◌≡◌, ℕ, ◌+◌, ◌-◌, ◌≤◌, true, List, [], ◌∷◌, Option, Some, None, map, length, refl, sym, ◌∙◌, ap, subst, arith, ⊎_elim}
use Rattle.std.specs.Prelude.{slice_get}
use Rattle.std.specs.Option.{option_map}
use Rattle.std.proofs.lemmas.Option.{same_Some, slice_get-map}
use Rattle.std.proofs.lemmas.Bool.{cases_lt}
use Rattle.phase_base.specs.Limits.{Limits}
use Rattle.phase_accum.specs.declared.single.Single.{Single}
use Rattle.phase_accum.specs.Operations.{Operation, IsPartOf}
use Rattle.phase_history.specs.Histories.{History, top_of}
use Rattle.phase_history.specs.Phases.{first_named}
use Rattle.phase_registry.specs.Rosters.{Roster}
use Rattle.phase_ring.specs.Slots.{Slot, IsUnused, first_of, sent}
use Rattle.phase_ring.specs.Rings.{Ring, slot_at, sents, KeepsSlots}
use Rattle.phase_ring.proofs.Kept.{option_map-some}
use Rattle.phase_core.specs.Slots.{KeptSlot}
use Rattle.phase_core.specs.Cores.{StandsFor, IsSlotOf, KeepsSends, KeepsPhase, IsBoarded, sent_of, core_with}
use Rattle.phase_core.proofs.CoreSteps.{none_from_top}
use Rattle.phase_core.proofs.Boarded.{IsKept, kept_boarded}

-- ---- between the two

-- a slot of the ring is one of the core
pub slot_of : {A : Type 0} (reg : Roster) (limits : Limits) (r : Ring A) (top p : ℕ) (slot : Slot A) → r.base ≤ p → slot_at r p ≡ Some slot
    → IsSlotOf (core_with reg limits r top) p (sent_of slot)
slot_of reg limits r top p slot low found = record {
  place = p - r.base;
  place_is = omega arith;
  found = slice_get-map sent_of r.slots (p - r.base) ∙ ap (option_map sent_of) found;
}

-- and back
pub record RingSlotOf {A : Type 0} (r : Ring A) (p : ℕ) (slot : KeptSlot A) : Type 0 where
  pub at : Slot A
  pub found : slot_at r p ≡ Some at
  pub is_sent : sent_of at ≡ slot
  pub low : r.base ≤ p

pub ring_slot_of : {A : Type 0} (reg : Roster) (limits : Limits) (r : Ring A) (top p : ℕ) (slot : KeptSlot A)
    → IsSlotOf (core_with reg limits r top) p slot → RingSlotOf r p slot
ring_slot_of reg limits r top p slot is =
    let place : r.base + is.place ≡ p = is.place_is in
    let at : is.place ≡ p - r.base = omega arith in
    let m = option_map-some sent_of (slice_get r.slots is.place) slot (sym (slice_get-map sent_of r.slots is.place) ∙ is.found) in
    record { at = m.0; found = ap (slice_get r.slots) (sym at) ∙ m.1; is_sent = m.2; low = omega arith }

-- ---- rings that say the same of their phases' sends

sent_of-sent : {A : Type 0} (slots : List (Slot A)) → map sent_of (map sent slots) ≡ map sent_of slots
sent_of-sent [] = refl
sent_of-sent (s ∷ ss) = ap (λ xs. sent_of s ∷ xs) (sent_of-sent ss)

pub same_slots : {A : Type 0} (reg : Roster) (limits : Limits) (r r' : Ring A) (top top' p : ℕ) (slot : KeptSlot A) → sents r ≡ sents r'
    → IsSlotOf (core_with reg limits r' top') p slot → (reg' : Roster) → IsSlotOf (core_with reg' limits r top) p slot
same_slots {A} reg limits r r' top top' p slot same is reg' =
    let slots : map sent_of r.slots ≡ map sent_of r'.slots =
    sym (sent_of-sent r.slots) ∙ ap (λ (x : Ring A). map sent_of x.slots) same ∙ sent_of-sent r'.slots in
    let base : r.base ≡ r'.base = ap (λ (x : Ring A). x.base) same in
    record {
      place = is.place;
      place_is = ap (λ n. n + is.place) base ∙ is.place_is;
      found = ap (λ xs. slice_get xs is.place) slots ∙ is.found;
    }

-- a slot that is kept but for who stands there and whether it is sealed
pub kept_slots : {A : Type 0} (reg reg' : Roster) (limits : Limits) (r new : Ring A) (top top' p : ℕ) (slot : KeptSlot A)
    → KeepsSlots (sents r) (sents new) → new.base ≤ p → IsSlotOf (core_with reg limits r top) p slot
    → IsSlotOf (core_with reg' limits new top') p slot
kept_slots {A} reg reg' limits r new top top' p slot keeps low is =
    let at = ring_slot_of reg limits r top p slot is in
    let old : slot_at (sents r) p ≡ Some (sent at.at) = slice_get-map sent r.slots (p - r.base) ∙ ap (option_map sent) at.found in
    let there : slot_at (sents new) p ≡ Some (sent at.at) = keeps p (sent at.at) low old in
    let m = option_map-some sent (slot_at new p) (sent at.at) (sym (slice_get-map sent new.slots (p - new.base)) ∙ there) in
    rw (ap sent_of m.2 ∙ at.is_sent) at (slot_of reg' limits new top' p m.0 low m.1)

-- ---- sends that join

pub first_same : (named : Option (Option Single)) (single : Option Single) → first_of named single ≡ first_named named true single
first_same (Some named) single = refl
first_same None single = refl

-- ---- what a slot of the ring says of the history

-- each phase of the ring is kept, those from the top on with no sends
pub slot_kept : {A : Type 0} (op : Operation A) (reg : Roster) (limits : Limits) (r : Ring A) (done top p : ℕ) (h : History) (slot : Slot A)
    → StandsFor op (core_with reg limits r top) h → IsKept op reg.members r limits.bound done top
    → r.base ≤ p → slot_at r p ≡ Some slot → KeepsSends op (sent_of slot) h p
slot_kept {A} op reg limits r done top p h slot stands b low found =
    ⊎_elim
    (λ below.
    let k : KeepsPhase op (core_with reg limits r top) h p = stands.phases_are r.base p b.slowest low below in
    let at = ring_slot_of reg limits r top p k.slot k.is_slot in
    let one : at.at ≡ slot = same_Some _ _ (sym at.found ∙ found) in
    let K : KeptSlot A → Type 0 = λ s. KeepsSends op s h p in
    subst K (sym at.is_sent ∙ ap sent_of one) k.keeps)
    (λ above.
    let u : IsUnused op slot = b.kept.unused p slot low found above in
    let t : top ≡ top_of h = stands.top_is in
    let nothing = none_from_top limits h p stands.legal (omega arith) in
    let none : IsPartOf op slot.part [] = record { is = u.part_is; are_sends = tt; few = omega arith } in
    record {
      part_is = rw nothing.0 none;
      count_is = u.count_is ∙ ap length (sym nothing.0);
      named_is = u.named_is ∙ sym nothing.1;
    })
    (cases_lt p top)

pub slot_keeps : {A : Type 0} (op : Operation A) (reg : Roster) (limits : Limits) (r : Ring A) (done top p : ℕ) (h : History) (slot : Slot A)
    → StandsFor op (core_with reg limits r top) h → IsBoarded op reg.members r limits.bound done top
    → r.base ≤ p → slot_at r p ≡ Some slot → KeepsSends op (sent_of slot) h p
slot_keeps op reg limits r done top p h slot stands b low found =
    slot_kept op reg limits r done top p h slot stands
    (kept_boarded op reg.members r limits.bound done top b) low found

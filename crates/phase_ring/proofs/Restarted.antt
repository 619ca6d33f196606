-- A ring of phases in a row of which each is complete and has one send.
use Rattle.std.proofs.Common.{◌≡◌, ℕ, zero, suc, ◌+◌, ◌-◌, ◌<◌, ◌≤◌, ℤ, pos, List, [], ◌∷◌, ◌++◌, Option, Some, None, get_or, map, length, replicate, refl, sym, ap, ◌∙◌, arith, ⊎_elim}
use Rattle.std.specs.Prelude.{slice_get}
use Rattle.std.proofs.lemmas.Bool.{cases_lt, le-ltb, lt-ltb}
use Rattle.std.proofs.lemmas.List.{length-append, length-map, length-replicate}
use Rattle.std.proofs.lemmas.Option.{same_Some}
use Rattle.phase_accum.specs.Operations.{Operation}
use Rattle.phase_base.specs.declared.limits.TheConstants.{PHASES_MAX}
use Rattle.phase_ring.specs.declared.board.Board.{Board}
use Rattle.phase_ring.specs.declared.role.Role.{Role}
use Rattle.phase_ring.specs.declared.role.Role.TheVariants.{Signaller, Waiter}
use Rattle.phase_ring.specs.Restarts.{MayBePlaced, one_slot, ring_of_ones}
use Rattle.phase_ring.specs.Rings.{Ring, IsWithin, slot_at, standing, standing_in}
use Rattle.phase_ring.specs.Slots.{Slot, empty_slot}
use Rattle.phase_ring.specs.Boards.{IsRingAt}
use Rattle.phase_ring.proofs.Slots.{IsPlace, standing-in, standing-out}

-- ---- its slots

-- a slot behind those of the values is empty
empty_at : {A : Type 0} (op : Operation A) (k i : ℕ) (slot : Slot A)
    → slice_get (replicate k (empty_slot op)) i ≡ Some slot → slot ≡ empty_slot op
empty_at op zero i slot found = absurd (cc)
empty_at op (suc k) zero slot found = same_Some _ _ (sym found)
empty_at op (suc k) (suc i) slot found = empty_at op k i slot found

pub slot_behind : {A : Type 0} (op : Operation A) (values : List ℤ) (k i : ℕ) (slot : Slot A)
    → length values ≤ i
    → slice_get (map (one_slot op) values ++ replicate k (empty_slot op)) i ≡ Some slot
    → slot ≡ empty_slot op
slot_behind op [] k i slot past found = empty_at op k i slot found
slot_behind op (v ∷ values) k zero slot past found = absurd (omega arith)
slot_behind op (v ∷ values) k (suc i) slot past found =
    slot_behind op values k i slot (omega arith) found

pub slot_of_value : {A : Type 0} (op : Operation A) (values : List ℤ) (k i : ℕ) (slot : Slot A)
    → i < length values
    → slice_get (map (one_slot op) values ++ replicate k (empty_slot op)) i ≡ Some slot
    → slot ≡ one_slot op (get_or values i (pos 0))
slot_of_value op [] k i slot below found = absurd (omega arith)
slot_of_value op (v ∷ values) k zero slot below found = same_Some _ _ (sym found)
slot_of_value op (v ∷ values) k (suc i) slot below found =
    slot_of_value op values k i slot (omega arith) found

-- nobody stands at any
none_in : {A : Type 0} (role : Role) (o : Option (Slot A))
    → ((slot : Slot A) → o ≡ Some slot → (slot.signallers ≡ 0) × (slot.waiters ≡ 0))
    → standing_in role o ≡ 0
none_in role None none = refl
none_in Signaller (Some slot) none = (none slot refl).0
none_in Waiter (Some slot) none = (none slot refl).1

module _ {A : Type 0} (op : Operation A) (bound base : ℕ) (values : List ℤ) (r : Ring A)
    (is : r ≡ ring_of_ones op (bound + 1) base values) (near : length values ≤ bound)
  where
    slots_are : r.slots ≡ (ring_of_ones op (bound + 1) base values).slots
    slots_are = ap (λ x. x.slots) is

    base_is : r.base ≡ base
    base_is = ap (λ x. x.base) is

    long : length r.slots ≡ bound + 1
    long =
        ap length slots_are
        ∙ (length-append (map (one_slot op) values)
        (replicate (bound + 1 - length values) (empty_slot op))
        ∙ (let a = length-map values (one_slot op) in
        let b = length-replicate (bound + 1 - length values) (empty_slot op) in omega arith))

    found_in : (p : ℕ) (slot : Slot A) → slot_at r p ≡ Some slot
        → slice_get (ring_of_ones op (bound + 1) base values).slots (p - base) ≡ Some slot
    found_in p slot found =
        sym (ap (λ xs. slice_get xs (p - base)) slots_are)
        ∙ (ap (λ b. slice_get r.slots (p - b)) (sym base_is) ∙ found)

    pub ones_standing : (role : Role) (p : ℕ) → standing r role p ≡ 0
    ones_standing role p =
        ⊎_elim (λ low. standing-out r role p low)
        (λ high. standing-in r role p high ∙ none_in role (slot_at r p) (λ slot found.
        let at = found_in p slot found in
        ⊎_elim
        (λ below. let e = slot_of_value op values (bound + 1 - length values) (p - base) slot below at in
        (ap (λ s. s.signallers) e, ap (λ s. s.waiters) e))
        (λ past. let e = slot_behind op values (bound + 1 - length values) (p - base) slot past at in
        (ap (λ s. s.signallers) e, ap (λ s. s.waiters) e))
        (cases_lt (p - base) (length values))))
        (cases_lt p r.base)

    pub ones_kept : (done top : ℕ) → top ≡ base + length values → done ≡ top → top ≤ PHASES_MAX
        → IsRingAt op r bound done top
    ones_kept done top top_is done_is far = record {
      long = long;
      base_done = omega (arith, base_is);
      done_top = omega arith;
      top_bound = omega (arith, base_is);
      top_far = far;
      signals_low = λ p low. ones_standing Signaller p;
      signals_high = λ p high. ones_standing Signaller p;
      waits_high = λ p high. ones_standing Waiter p;
      sealed_below = λ p slot low found.
          ⊎_elim
          (λ below. let place : p - base < length values = omega (arith, base_is) in
          ap (λ s. s.sealed) (slot_of_value op values (bound + 1 - length values) (p - base) slot
          place (found_in p slot found)) ∙ sym (lt-ltb p done below))
          (λ past. let place : length values ≤ p - base = omega (arith, base_is) in
          ap (λ s. s.sealed) (slot_behind op values (bound + 1 - length values) (p - base) slot
          place (found_in p slot found)) ∙ sym (le-ltb p done past))
          (cases_lt p done);
      unused = λ p slot low found above.
          let place : length values ≤ p - base = omega (arith, base_is) in
          let e = slot_behind op values (bound + 1 - length values) (p - base) slot place
          (found_in p slot found) in
          record {
            part_is = ap (λ s. s.part) e;
            count_is = ap (λ s. s.count) e;
            named_is = ap (λ s. s.named) e;
          };
    }

-- ---- where somebody may stand

pub MayBePlaced-within : {A : Type 0} (op : Operation A) (board : Board A) (role : Role) (q : ℕ)
    → IsRingAt op board.ring board.limits.bound board.done board.top → MayBePlaced role q board
    → IsWithin board.ring q × IsPlace role q board.done board.top
MayBePlaced-within op board Signaller q k may = (
  record {
    low = omega (arith, k.base_done, may.0);
    high = omega (arith, k.long, k.top_bound, may.1);
  },
  (may.0, may.1),
)
MayBePlaced-within op board Waiter q k may = (
  record {
    low = may.0;
    high = omega (arith, k.long, k.top_bound, k.done_top, may.1);
  },
  may.1,
)

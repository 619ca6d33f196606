-- The slot of each phase where one slot of a ring changes.
use Rattle.std.proofs.Common.{◌≡◌, ℕ, ◌+◌, ◌-◌, ◌<◌, ◌≤◌, true, false, cond, ltb, List, [], ◌∷◌, ◌++◌, Some, None, set, drop, map, length, zero, suc, refl, sym, ◌∙◌, ap, subst, arith, ⊎_elim, max}
use Rattle.std.specs.Prelude.{slice_get, slice_set}
use Rattle.std.proofs.lemmas.List.{length-set}
use Rattle.std.proofs.lemmas.Bool.{le-ltb, lt-ltb, cases_eq, cases_lt}
use Rattle.std.proofs.lemmas.Option.{same_Some, slice_get_past}
use Rattle.circular_buffer.proofs.Places.{slice_get-some, slice_get-set_same, slice_get-set_other, slice_get-last}
use Rattle.phase_base.specs.declared.limits.TheConstants.{PHASES_MAX}
use Rattle.phase_accum.specs.Operations.{Operation}
use Rattle.phase_ring.proofs.Held.{length-moved}
use Rattle.phase_ring.specs.declared.role.Role.{Role}
use Rattle.phase_ring.specs.declared.role.Role.TheVariants.{Signaller, Waiter}
use Rattle.phase_ring.specs.Rings.{Ring, ring, IsWithin, is_sealed, sealed_in, slot_at, with_slot, standing, standing_in, sents, KeepsSlots, released}
use Rattle.phase_ring.specs.Slots.{Slot, sealed, standing_of, sent, with_standing, IsUnused, empty_slot}
use Rattle.phase_ring.specs.Boards.{IsRingAt}

-- a phase within the ring has a slot
pub slot_at-some : {A : Type 0} (r : Ring A) (p : ℕ) → IsWithin r p → (slot : Slot A) × (slot_at r p ≡ Some slot)
slot_at-some r p w = slice_get-some r.slots (p - r.base) (let a : r.base ≤ p = w.low in let b : p < r.base + length r.slots = w.high in omega arith)

pub slot_at-with_same : {A : Type 0} (r : Ring A) (p : ℕ) (slot : Slot A) → IsWithin r p → slot_at (with_slot p slot r) p ≡ Some slot
slot_at-with_same r p slot w =
    slice_get-set_same r.slots (p - r.base) slot (let a : r.base ≤ p = w.low in let b : p < r.base + length r.slots = w.high in omega arith)

pub slot_at-with_other : {A : Type 0} (r : Ring A) (p q : ℕ) (slot : Slot A) → r.base ≤ p → r.base ≤ q → (p ≡ q → ⊥)
    → slot_at (with_slot q slot r) p ≡ slot_at r p
slot_at-with_other r p q slot low low_q apart =
    slice_get-set_other r.slots (q - r.base) (p - r.base) slot (λ e. apart (omega arith))

-- how many stand at a phase of the ring
pub standing-at : {A : Type 0} (r : Ring A) (role : Role) (p : ℕ) (slot : Slot A) → r.base ≤ p → slot_at r p ≡ Some slot
    → standing r role p ≡ standing_of role slot
standing-at r role p slot low found =
    ap (λ b. cond b 0 (standing_in role (slot_at r p))) (le-ltb p r.base low) ∙ ap (standing_in role) found

-- what is said of each slot, where one slot changes
pub changes : {A : Type 0} (P Q : ℕ → Slot A → Type 0) (r : Ring A) (q : ℕ) (old new : Slot A) → IsWithin r q → slot_at r q ≡ Some old
    → ((p : ℕ) (slot : Slot A) → r.base ≤ p → slot_at r p ≡ Some slot → P p slot)
    → ((p : ℕ) (slot : Slot A) → (p ≡ q → ⊥) → P p slot → Q p slot)
    → (P q old → Q q new)
    → (p : ℕ) (slot : Slot A) → r.base ≤ p → slot_at (with_slot q new r) p ≡ Some slot → Q p slot
changes {A} P Q r q old new w found each others own p slot low at =
    ⊎_elim
    (λ here.
    let is : new ≡ slot = same_Some _ _ (sym (slot_at-with_same r q new w) ∙ rw here at at) in
    let R' : ℕ → Type 0 = λ n. Q n slot in
    subst R' (sym here) (rw is at (own (each q old w.low found))))
    (λ apart. others p slot apart (each p slot low (sym (slot_at-with_other r p q new low w.low apart) ∙ at)))
    (cases_eq p q)

-- ---- sealing

map-set : {X Y : Type 0} (f : X → Y) (xs : List X) (i : ℕ) (x y : X) → slice_get xs i ≡ Some x → f y ≡ f x → map f (set xs i y) ≡ map f xs
map-set f [] i x y found same = refl
map-set f (z ∷ xs) zero x y found same = ap (λ w. w ∷ map f xs) (same ∙ ap f (sym (same_Some _ _ found)))
map-set f (z ∷ xs) (suc i) x y found same = ap (λ ws. f z ∷ ws) (map-set f xs i x y found same)

-- what was sent stays where a slot changes in other ways
pub sents-with : {A : Type 0} (r : Ring A) (p : ℕ) (old new : Slot A) → slot_at r p ≡ Some old → sent new ≡ sent old
    → sents (with_slot p new r) ≡ sents r
sents-with r p old new found same = ap (λ ss. ring r.base ss) (map-set sent r.slots (p - r.base) old new found same)

pub slice_get-append_left : {X : Type 0} (xs ys : List X) (i : ℕ) → i < length xs → slice_get (xs ++ ys) i ≡ slice_get xs i
slice_get-append_left [] ys i within = absurd (omega arith)
slice_get-append_left (x ∷ xs) ys zero within = refl
slice_get-append_left (x ∷ xs) ys (suc i) within = slice_get-append_left xs ys i (omega arith)

-- ---- who stands where

pub standing-out : {A : Type 0} (r : Ring A) (role : Role) (p : ℕ) → p < r.base → standing r role p ≡ 0
standing-out r role p out = ap (λ t. cond t 0 (standing_in role (slot_at r p))) (lt-ltb p r.base out)

pub standing-in : {A : Type 0} (r : Ring A) (role : Role) (p : ℕ) → r.base ≤ p → standing r role p ≡ standing_in role (slot_at r p)
standing-in r role p low = ap (λ t. cond t 0 (standing_in role (slot_at r p))) (le-ltb p r.base low)

-- at the other phases nobody moves
pub standing-with_other : {A : Type 0} (r : Ring A) (q : ℕ) (new : Slot A) (role : Role) (p : ℕ) → r.base ≤ q → (p ≡ q → ⊥)
    → standing (with_slot q new r) role p ≡ standing r role p
standing-with_other r q new role p low apart =
    ⊎_elim
    (λ out. standing-out (with_slot q new r) role p out ∙ sym (standing-out r role p out))
    (λ inside. standing-in (with_slot q new r) role p inside
    ∙ ap (standing_in role) (slot_at-with_other r p q new inside low apart) ∙ sym (standing-in r role p inside))
    (cases_lt p r.base)

pub standing-with_at : {A : Type 0} (r : Ring A) (q : ℕ) (new : Slot A) (role : Role) → IsWithin r q
    → standing (with_slot q new r) role q ≡ standing_of role new
standing-with_at r q new role w = standing-at (with_slot q new r) role q new w.low (slot_at-with_same r q new w)

-- nobody moves where as many stand at the slot
pub standing-with_same : {A : Type 0} (r : Ring A) (q : ℕ) (old new : Slot A) (role : Role) → IsWithin r q → slot_at r q ≡ Some old
    → standing_of role new ≡ standing_of role old → (p : ℕ) → standing (with_slot q new r) role p ≡ standing r role p
standing-with_same r q old new role w found same p =
    ⊎_elim
    (λ here. ap (standing (with_slot q new r) role) here ∙ standing-with_at r q new role w ∙ same
    ∙ sym (standing-at r role q old w.low found) ∙ ap (standing r role) (sym here))
    (λ apart. standing-with_other r q new role p w.low apart)
    (cases_eq p q)

-- a phase below the top has a slot, where done is not below the base
pub done-within : {A : Type 0} (op : Operation A) (r : Ring A) (bound done top : ℕ) → IsRingAt op r bound done top → done ≤ top → IsWithin r done
done-within op r bound done top k below =
    let a : r.base ≤ done = k.base_done in
    let b : top ≤ r.base + bound = k.top_bound in
    let c : length r.slots ≡ bound + 1 = k.long in
    record { low = a; high = omega arith }

-- a slot is sealed where its phase is below done
pub sealed-kept : {A : Type 0} (op : Operation A) (r : Ring A) (bound done top p : ℕ) → IsRingAt op r bound done top → IsWithin r p
    → is_sealed r p ≡ ltb p done
sealed-kept op r bound done top p k w =
    let slot = slot_at-some r p w in
    ap sealed_in slot.1 ∙ k.sealed_below p slot.0 w.low slot.1

pub sealed-low : {A : Type 0} (op : Operation A) (r : Ring A) (bound done top p : ℕ) → IsRingAt op r bound done top → IsWithin r p → p < done
    → is_sealed r p ≡ true
sealed-low op r bound done top p k w low = sealed-kept op r bound done top p k w ∙ lt-ltb p done low

pub sealed-high : {A : Type 0} (op : Operation A) (r : Ring A) (bound done top p : ℕ) → IsRingAt op r bound done top → IsWithin r p → done ≤ p
    → is_sealed r p ≡ false
sealed-high op r bound done top p k w high = sealed-kept op r bound done top p k w ∙ le-ltb p done high

-- one more phase is complete
pub seals : {A : Type 0} (op : Operation A) (r : Ring A) (bound done top : ℕ) (slot : Slot A) → IsRingAt op r bound done top → done < top
    → slot_at r done ≡ Some slot → standing r Signaller done ≡ 0
    → IsRingAt op (with_slot done (sealed slot) r) bound (done + 1) top
seals {A} op r bound done top slot k below found none =
    let a : r.base ≤ done = k.base_done in
    let b : top ≤ r.base + bound = k.top_bound in
    let c : length r.slots ≡ bound + 1 = k.long in
    let w : IsWithin r done = record { low = a; high = omega arith } in
    let same : length (slice_set r.slots (done - r.base) (sealed slot)) ≡ length r.slots = length-set _ _ _ in
    let signallers = standing-with_same r done slot (sealed slot) Signaller w found refl in
    let waiters = standing-with_same r done slot (sealed slot) Waiter w found refl in
    record {
      long = same ∙ c;
      base_done = omega arith;
      done_top = omega arith;
      top_bound = b;
      top_far = k.top_far;
      signals_low = λ p low. signallers p ∙ ⊎_elim (λ before. k.signals_low p before)
          (λ here. ap (standing r Signaller) (let is : p ≡ done = omega arith in is) ∙ none) (cases_lt p done);
      signals_high = λ p high. signallers p ∙ k.signals_high p high;
      waits_high = λ p high. waiters p ∙ k.waits_high p (omega arith);
      sealed_below = changes (λ p s. s.sealed ≡ ltb p done) (λ p s. s.sealed ≡ ltb p (done + 1)) r done slot (sealed slot) w found k.sealed_below
          (λ p s apart is. is ∙ ⊎_elim (λ lt. lt-ltb p done lt ∙ sym (lt-ltb p (done + 1) (omega arith)))
          (λ ge. le-ltb p done ge ∙ sym (le-ltb p (done + 1) (let ne : p ≡ done → ⊥ = apart in omega arith))) (cases_lt p done))
          (λ is. sym (lt-ltb done (done + 1) (omega arith)));
      unused = changes (λ p s. top ≤ p → IsUnused op s) (λ p s. top ≤ p → IsUnused op s) r done slot (sealed slot) w found k.unused
          (λ p s apart u. u) (λ u above. absurd (omega arith));
    }

-- ---- releasing

slot_at-moved : {A : Type 0} (slots : List (Slot A)) (e : Slot A) (i : ℕ) → i + 1 < length slots
    → slice_get (drop 1 slots ++ e ∷ []) i ≡ slice_get slots (i + 1)
slot_at-moved [] e i within = absurd (omega arith)
slot_at-moved (x ∷ xs) e i within = slice_get-append_left xs (e ∷ []) i (omega arith) ∙ ap (slice_get (x ∷ xs)) (let s : suc i ≡ i + 1 = omega arith in s)

slot_at-moved_last : {A : Type 0} (slots : List (Slot A)) (e : Slot A) (i : ℕ) → i + 1 ≡ length slots
    → slice_get (drop 1 slots ++ e ∷ []) i ≡ Some e
slot_at-moved_last [] e i last = absurd (omega arith)
slot_at-moved_last (x ∷ xs) e i last = slice_get-last xs e i (omega arith)

-- the other phases keep their slots
pub slot_at-released : {A : Type 0} (op : Operation A) (r : Ring A) (p : ℕ) → r.base + 1 ≤ p → p < r.base + length r.slots
    → slot_at (released op r) p ≡ slot_at r p
slot_at-released op r p low high =
    slot_at-moved r.slots (empty_slot op) (p - (r.base + 1)) (omega arith)
    ∙ ap (slice_get r.slots) (let s : p - (r.base + 1) + 1 ≡ p - r.base = omega arith in s)

pub slot_at-released_last : {A : Type 0} (op : Operation A) (r : Ring A) (p : ℕ) → p ≡ r.base + length r.slots → 0 < length r.slots
    → slot_at (released op r) p ≡ Some (empty_slot op)
slot_at-released_last op r p last some = slot_at-moved_last r.slots (empty_slot op) (p - (r.base + 1)) (omega arith)

pub length-released : {A : Type 0} (op : Operation A) (r : Ring A) → 0 < length r.slots → length (drop 1 r.slots ++ empty_slot op ∷ []) ≡ length r.slots
length-released op r some = length-moved r.slots (empty_slot op) some

-- past the last slot there is none
pub slot_at-past : {A : Type 0} (r : Ring A) (p : ℕ) → r.base + length r.slots ≤ p → slot_at r p ≡ None
slot_at-past r p past = slice_get_past r.slots (p - r.base) (omega arith)

pub empty-standing : {A : Type 0} (op : Operation A) (role : Role) → standing_of role (empty_slot op) ≡ 0
empty-standing op Signaller = refl
empty-standing op Waiter = refl

-- nobody moves where nobody stands at the base
pub standing-released : {A : Type 0} (op : Operation A) (r : Ring A) (role : Role) → 0 < length r.slots → standing r role r.base ≡ 0
    → (p : ℕ) → standing (released op r) role p ≡ standing r role p
standing-released op r role some none p =
    let new = released op r in
    let same : length new.slots ≡ length r.slots = length-released op r some in
    ⊎_elim
    (λ (out : p < r.base + 1). standing-out new role p out
    ∙ sym (⊎_elim (λ before. standing-out r role p before) (λ at. ap (standing r role) (let is : p ≡ r.base = omega arith in is) ∙ none) (cases_lt p r.base)))
    (λ (inside : r.base + 1 ≤ p). standing-in new role p inside
    ∙ ⊎_elim
    (λ within. ap (standing_in role) (slot_at-released op r p inside within))
    (λ past. ⊎_elim
    (λ last. ap (standing_in role) (slot_at-released_last op r p last some) ∙ empty-standing op role ∙ sym (ap (standing_in role) (slot_at-past r p past)))
    (λ apart. ap (standing_in role) (slot_at-past new p (let ne : p ≡ r.base + length r.slots → ⊥ = apart in omega arith)) ∙ sym (ap (standing_in role) (slot_at-past r p past)))
    (cases_eq p (r.base + length r.slots)))
    (cases_lt p (r.base + length r.slots))
    ∙ sym (standing-in r role p (omega arith)))
    (cases_lt p (r.base + 1))

-- the first phase is given up, where nobody waits for it
pub releases : {A : Type 0} (op : Operation A) (r : Ring A) (bound done top : ℕ) → IsRingAt op r bound done top → r.base < done
    → standing r Waiter r.base ≡ 0 → IsRingAt op (released op r) bound done top
releases {A} op r bound done top k below none =
    let c : length r.slots ≡ bound + 1 = k.long in
    let high : done ≤ top = k.done_top in
    let far : top ≤ r.base + bound = k.top_bound in
    let some : 0 < length r.slots = omega arith in
    let signallers = standing-released op r Signaller some (k.signals_low r.base below) in
    let waiters = standing-released op r Waiter some none in
    let slots : (P : ℕ → Slot A → Type 0) → ((p : ℕ) (s : Slot A) → r.base ≤ p → slot_at r p ≡ Some s → P p s)
    → ((p : ℕ) → top < p → P p (empty_slot op))
    → (p : ℕ) (s : Slot A) → r.base + 1 ≤ p → slot_at (released op r) p ≡ Some s → P p s =
    λ P each last p s low at. ⊎_elim
    (λ within. each p s (omega arith) (sym (slot_at-released op r p low within) ∙ at))
    (λ past. ⊎_elim
    (λ here. let Q : Slot A → Type 0 = P p in subst Q (same_Some _ _ (sym (slot_at-released_last op r p here some) ∙ at)) (last p (omega arith)))
    (λ apart. absurd (let no = slot_at-past (released op r) p (let same = length-released op r some in let ne : p ≡ r.base + length r.slots → ⊥ = apart in omega arith) in
    none_some s (sym no ∙ at)))
    (cases_eq p (r.base + length r.slots)))
    (cases_lt p (r.base + length r.slots)) in
    record {
      long = length-released op r some ∙ c;
      base_done = omega arith;
      done_top = high;
      top_bound = omega arith;
      top_far = k.top_far;
      signals_low = λ p low. signallers p ∙ k.signals_low p low;
      signals_high = λ p h. signallers p ∙ k.signals_high p h;
      waits_high = λ p h. waiters p ∙ k.waits_high p h;
      sealed_below = slots (λ p s. s.sealed ≡ ltb p done) k.sealed_below (λ p above. sym (le-ltb p done (omega arith)));
      unused = slots (λ p s. top ≤ p → IsUnused op s) k.unused (λ p above h. record { part_is = refl; count_is = refl; named_is = refl });
    }
  where
    none_some : {X : Type 0} (x : X) → None ≡ Some x → ⊥
    none_some x e = absurd (cc)

-- where nobody waits for the base, but somebody for some phase, the base is below done
pub waiter-above : {A : Type 0} (op : Operation A) (r : Ring A) (bound done top p : ℕ) → IsRingAt op r bound done top
    → standing r Waiter r.base ≡ 0 → 0 < standing r Waiter p → r.base < done
waiter-above op r bound done top p k none some =
    ⊎_elim (λ out. absurd (let z = standing-out r Waiter p out in omega arith))
    (λ inside. ⊎_elim (λ here. absurd (let z : standing r Waiter p ≡ 0 = ap (standing r Waiter) here ∙ none in omega arith))
    (λ apart. ⊎_elim (λ above. absurd (let z = k.waits_high p above in omega arith))
    (λ low. (let ne : p ≡ r.base → ⊥ = apart in omega arith)) (cases_lt done p))
    (cases_eq p r.base))
    (cases_lt p r.base)

-- the slots that are left
pub KeepsSlots-released : {A : Type 0} (op : Operation A) (r : Ring A) → KeepsSlots r (released op r)
KeepsSlots-released op r p slot low found =
    ⊎_elim (λ within. slot_at-released op r p low within ∙ found)
    (λ past. absurd (none_some slot (sym (slot_at-past r p past) ∙ found)))
    (cases_lt p (r.base + length r.slots))
  where
    none_some : {X : Type 0} (x : X) → None ≡ Some x → ⊥
    none_some x e = absurd (cc)

-- ---- who comes and goes

-- where somebody may stand
abbrev pub IsPlace : Role → ℕ → ℕ → ℕ → Type 0
IsPlace Signaller q done top = (done ≤ q) × (q ≤ top)
IsPlace Waiter q done top = q ≤ done

pub stands : {A : Type 0} (op : Operation A) (r : Ring A) (bound done top q n : ℕ) (slot : Slot A) (role : Role) → IsRingAt op r bound done top
    → IsWithin r q → slot_at r q ≡ Some slot → IsPlace role q done top → IsRingAt op (with_slot q (with_standing role n slot) r) bound done top
stands {A} op r bound done top q n slot Signaller k w found place =
    let a : done ≤ q = place.0 in
    let b : q ≤ top = place.1 in
    let new : Slot A = with_standing Signaller n slot in
    record {
      long = length-set _ _ _ ∙ k.long;
      base_done = k.base_done;
      done_top = k.done_top;
      top_bound = k.top_bound;
      top_far = k.top_far;
      signals_low = λ p low. standing-with_other r q new Signaller p w.low (λ e. omega arith) ∙ k.signals_low p low;
      signals_high = λ p high. standing-with_other r q new Signaller p w.low (λ e. omega arith) ∙ k.signals_high p high;
      waits_high = λ p high. standing-with_same r q slot new Waiter w found refl p ∙ k.waits_high p high;
      sealed_below = changes (λ p s. s.sealed ≡ ltb p done) (λ p s. s.sealed ≡ ltb p done) r q slot new w found k.sealed_below (λ p s apart h. h) (λ h. h);
      unused = changes (λ p s. top ≤ p → IsUnused op s) (λ p s. top ≤ p → IsUnused op s) r q slot new w found k.unused (λ p s apart u. u)
          (λ u above. record { part_is = (u above).part_is; count_is = (u above).count_is; named_is = (u above).named_is });
    }
stands {A} op r bound done top q n slot Waiter k w found place =
    let a : q ≤ done = place in
    let new : Slot A = with_standing Waiter n slot in
    record {
      long = length-set _ _ _ ∙ k.long;
      base_done = k.base_done;
      done_top = k.done_top;
      top_bound = k.top_bound;
      top_far = k.top_far;
      signals_low = λ p low. standing-with_same r q slot new Signaller w found refl p ∙ k.signals_low p low;
      signals_high = λ p high. standing-with_same r q slot new Signaller w found refl p ∙ k.signals_high p high;
      waits_high = λ p high. standing-with_other r q new Waiter p w.low (λ e. omega arith) ∙ k.waits_high p high;
      sealed_below = changes (λ p s. s.sealed ≡ ltb p done) (λ p s. s.sealed ≡ ltb p done) r q slot new w found k.sealed_below (λ p s apart h. h) (λ h. h);
      unused = changes (λ p s. top ≤ p → IsUnused op s) (λ p s. top ≤ p → IsUnused op s) r q slot new w found k.unused (λ p s apart u. u)
          (λ u above. record { part_is = (u above).part_is; count_is = (u above).count_is; named_is = (u above).named_is });
    }

-- sends join a phase, and the top is above it then
pub merges : {A : Type 0} (op : Operation A) (r : Ring A) (bound done top q : ℕ) (slot new : Slot A) → IsRingAt op r bound done top
    → IsWithin r q → slot_at r q ≡ Some slot → q < r.base + bound → q < PHASES_MAX
    → new.signallers ≡ slot.signallers → new.waiters ≡ slot.waiters → new.sealed ≡ slot.sealed
    → IsRingAt op (with_slot q new r) bound done (max top (q + 1))
merges {A} op r bound done top q slot new k w found ahead near signallers waiters seal =
    let t : done ≤ top = k.done_top in
    let b : top ≤ r.base + bound = k.top_bound in
    record {
      long = length-set _ _ _ ∙ k.long;
      base_done = k.base_done;
      done_top = omega arith;
      top_bound = omega arith;
      top_far = (let f = k.top_far in omega arith);
      signals_low = λ p low. standing-with_same r q slot new Signaller w found signallers p ∙ k.signals_low p low;
      signals_high = λ p high. standing-with_same r q slot new Signaller w found signallers p ∙ k.signals_high p (omega arith);
      waits_high = λ p high. standing-with_same r q slot new Waiter w found waiters p ∙ k.waits_high p high;
      sealed_below = changes (λ p s. s.sealed ≡ ltb p done) (λ p s. s.sealed ≡ ltb p done) r q slot new w found k.sealed_below (λ p s apart h. h) (λ h. seal ∙ h);
      unused = changes (λ p s. top ≤ p → IsUnused op s) (λ p s. max top (q + 1) ≤ p → IsUnused op s) r q slot new w found k.unused
          (λ p s apart u above. u (omega arith)) (λ u above. absurd (omega arith));
    }

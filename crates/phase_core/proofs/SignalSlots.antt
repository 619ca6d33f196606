-- The slots that the sends of a signal have joined.
use Rattle.std.proofs.Common.{◌≡◌, ℕ, suc, ◌+◌, ◌≤◌, Bool, true, false, ◌&&◌, cond, ltb, List, [], ◌∷◌, ◌++◌, Option, Some, None, ℤ, length, length-append, refl, sym, ap, ◌∙◌, arith, ⊎_elim}
use Rattle.std.proofs.lemmas.List.{append-nil, append_assoc, length-set}
use Rattle.std.proofs.lemmas.Bool.{eq-eqb, ne_eqb, le-leb, lt-ltb, le-ltb, cases_lt}
use Rattle.phase_accum.specs.declared.single.Single.{Single}
use Rattle.phase_accum.specs.Operations.{Operation, AccumulateLaws, IsPartOf}
use Rattle.phase_accum.specs.Parcels.{Parcel, StandsForSends}
use Rattle.phase_accum.proofs.Parts.{IsPartOf-join}
use Rattle.phase_history.specs.Phases.{list_in_phase, first_named, is_among}
use Rattle.phase_history.specs.Legal.{AreLists}
use Rattle.phase_history.proofs.BlockLeaves.{list_in_phase-first, first_named-twice, is_among-below, is_among-first}
use Rattle.phase_ring.specs.Slots.{Slot, joined, merge_refusal}
use Rattle.phase_ring.specs.Rings.{Ring, IsWithin, slot_at, with_slot}
use Rattle.phase_ring.specs.Blocks.{joined_in, block_joined, BlockFits}
use Rattle.phase_ring.proofs.Slots.{slot_at-some, changes}
use Rattle.phase_ring.proofs.Blocks.{few_joined, fits-later}
use Rattle.phase_core.specs.Blocks.{StandForLists}
use Rattle.phase_core.proofs.RingSlots.{first_same}

-- ---- what each slot has

pub record HasSends {A : Type 0} (op : Operation A) (slot : Slot A) (sends : List ℤ) (named : Option (Option Single)) : Type 0 where
  pub part_is : IsPartOf op slot.part sends
  pub count_is : slot.count ≡ length sends
  pub named_is : slot.named ≡ named

-- each slot from the base on has the part, the number and the name of these sends
abbrev pub RingKeeps : {A : Type 0} → Operation A → Ring A → (ℕ → List ℤ) → (ℕ → Option (Option Single)) → Type 0
RingKeeps {A} op r sends named = (p : ℕ) (slot : Slot A) → r.base ≤ p → slot_at r p ≡ Some slot → HasSends op slot (sends p) (named p)

keeps-same : {A : Type 0} (op : Operation A) (r : Ring A) (sends sends' : ℕ → List ℤ) (named named' : ℕ → Option (Option Single))
    → RingKeeps op r sends named → ((p : ℕ) → sends p ≡ sends' p) → ((p : ℕ) → named p ≡ named' p) → RingKeeps op r sends' named'
keeps-same {A} op r sends sends' named named' k same same_name p slot low found =
    let x = k p slot low found in
    record { part_is = rw (same p) at x.part_is; count_is = x.count_is ∙ ap length (same p); named_is = x.named_is ∙ same_name p }

here-list : (sends : List ℤ) (q : ℕ) → list_in_phase (sends ∷ []) q q ≡ sends
here-list sends q = ap (λ b. cond b sends []) (eq-eqb q q refl)

here-among : (q : ℕ) → is_among q 1 q ≡ true
here-among q = ap (λ b. b && ltb q (q + 1)) (le-leb q q (omega arith)) ∙ lt-ltb q (q + 1) (omega arith)

away-list : (sends : List ℤ) (q p : ℕ) → (p ≡ q → ⊥) → list_in_phase (sends ∷ []) q p ≡ []
away-list sends q p apart = ap (λ b. cond b sends []) (ne_eqb q p (λ e. apart (sym e)))

away-among : (q p : ℕ) → (p ≡ q → ⊥) → is_among q 1 p ≡ false
away-among q p apart =
    ⊎_elim (λ below. is_among-below q q 1 p below (omega arith))
    (λ from. ap (λ b. b && ltb p (q + 1)) (le-leb q p from) ∙ le-ltb p (q + 1) (let ne : p ≡ q → ⊥ = apart in omega arith))
    (cases_lt p q)

away-named : (named : Option (Option Single)) (b : Bool) (single : Option Single) → b ≡ false → first_named named b single ≡ named
away-named (Some n) b single e = refl
away-named None b single e = rw e refl

keeps-joined : {A : Type 0} (op : Operation A) (laws : AccumulateLaws op) (r : Ring A) (q : ℕ) (held : Parcel A) (list : List ℤ) (single : Option Single)
    (sends : ℕ → List ℤ) (named : ℕ → Option (Option Single)) (slot : Slot A)
    → RingKeeps op r sends named → IsWithin r q → slot_at r q ≡ Some slot → StandsForSends op held list → merge_refusal slot held.count single ≡ None
    → RingKeeps op (with_slot q (joined op held single slot) r) (λ p. sends p ++ list_in_phase (list ∷ []) q p) (λ p. first_named (named p) (is_among q 1 p) single)
keeps-joined {A} op laws r q held list single sends named slot k w found holds fits =
    changes (λ p s. HasSends op s (sends p) (named p)) (λ p s. HasSends op s (sends p ++ list_in_phase (list ∷ []) q p) (first_named (named p) (is_among q 1 p) single))
    r q slot (joined op held single slot) w found k
    (λ p s apart x.
    rw (away-list list q p apart) (rw (append-nil (sends p)) (rw (away-named (named p) _ single (away-among q p apart)) x)))
    (λ x.
    let few = few_joined slot held.count single fits in
    let a : slot.count ≡ length (sends q) = x.count_is in
    let b : held.count ≡ length list = holds.count_is in
    let c : length (sends q ++ list) ≡ length (sends q) + length list = length-append _ _ in
    rw (here-list list q) (record {
      part_is = IsPartOf-join op slot.part held.part (sends q) list laws x.part_is holds.part_is (omega arith);
      count_is = (let d : slot.count + held.count ≡ length (sends q ++ list) = omega arith in d);
      named_is = first_same slot.named single ∙ ap (λ n. first_named n true single) x.named_is ∙ sym (ap (λ j. first_named (named q) j single) (here-among q));
    }))

-- after all parcels of the block have joined
pub keeps-block : {A : Type 0} (op : Operation A) (laws : AccumulateLaws op) (r : Ring A) (q : ℕ) (held : List (Parcel A)) (lists : List (List ℤ)) (single : Option Single)
    (sends : ℕ → List ℤ) (named : ℕ → Option (Option Single))
    → RingKeeps op r sends named → r.base ≤ q → q + length held ≤ r.base + length r.slots → StandForLists op held lists → BlockFits r q held single
    → RingKeeps op (block_joined op q held single r) (λ p. sends p ++ list_in_phase lists q p) (λ p. first_named (named p) (is_among q (length lists) p) single)
keeps-block op laws r q [] (l ∷ lists) single sends named k low high holds fits = absurd holds
keeps-block op laws r q (x ∷ held) [] single sends named k low high holds fits = absurd holds
keeps-block op laws r q [] [] single sends named k low high holds fits =
    keeps-same op r sends (λ p. sends p ++ []) named (λ p. first_named (named p) (is_among q 0 p) single) k
    (λ p. sym (append-nil (sends p))) (λ p. sym (away-named (named p) _ single (none q p)))
  where
    none : (q p : ℕ) → is_among q 0 p ≡ false
    none q p =
        ⊎_elim (λ below. is_among-below q q 0 p below (omega arith))
        (λ from. ap (λ b. b && ltb p (q + 0)) (le-leb q p from) ∙ le-ltb p (q + 0) (omega arith))
        (cases_lt p q)
keeps-block {A} op laws r q (x ∷ held) (l ∷ lists) single sends named k low high holds fits =
    let w : IsWithin r q = record { low = low; high = omega arith } in
    let slot = slot_at-some r q w in
    let y = joined op x single slot.0 in
    let r1 : Ring A = with_slot q y r in
    let one = keeps-joined op laws r q x l single sends named slot.0 k w slot.1 holds.0 (fits.0 slot.0 slot.1) in
    let long = length-set-slots r q y in
    let all = keeps-block op laws r1 (q + 1) held lists single (λ p. sends p ++ list_in_phase (l ∷ []) q p) (λ p. first_named (named p) (is_among q 1 p) single)
    one (omega arith) (omega arith) holds.1 (fits-later r q (q + 1) y held single low (omega arith) fits.1) in
    rw (ap (λ o. block_joined op (q + 1) held single (joined_in op q x single r o)) slot.1)
    (keeps-same op (block_joined op (q + 1) held single r1) _ (λ p. sends p ++ list_in_phase (l ∷ lists) q p) _ (λ p. first_named (named p) (is_among q (suc (length lists)) p) single) all
    (λ p. append_assoc (sends p) (list_in_phase (l ∷ []) q p) (list_in_phase lists (q + 1) p) ∙ ap (λ z. sends p ++ z) (sym (list_in_phase-first l lists q p)))
    (λ p. sym (ap (λ b. first_named (named p) b single) (is_among-first q (length lists) p)
    ∙ first_named-twice (named p) (is_among q 1 p) (is_among (q + 1) (length lists) p) single)))
  where
    length-set-slots : {A : Type 0} (r : Ring A) (q : ℕ) (y : Slot A) → length (with_slot q y r).slots ≡ length r.slots
    length-set-slots r q y = length-set _ _ _

-- ---- the lists of a block

pub lists-are : {A : Type 0} (op : Operation A) (held : List (Parcel A)) (lists : List (List ℤ)) → StandForLists op held lists → AreLists lists
lists-are op [] [] holds = tt
lists-are op [] (l ∷ lists) holds = absurd holds
lists-are op (x ∷ held) [] holds = absurd holds
lists-are op (x ∷ held) (l ∷ lists) holds = (holds.0.part_is.are_sends, holds.0.part_is.few, lists-are op held lists holds.1)

pub lists-length : {A : Type 0} (op : Operation A) (held : List (Parcel A)) (lists : List (List ℤ)) → StandForLists op held lists → length lists ≡ length held
lists-length op [] [] holds = refl
lists-length op [] (l ∷ lists) holds = absurd holds
lists-length op (x ∷ held) [] holds = absurd holds
lists-length op (x ∷ held) (l ∷ lists) holds = ap suc (lists-length op held lists holds.1)

-- Sends that join phases in a row.
use Rattle.std.proofs.Common.{◌≡◌, ◌≢◌, ℕ, ℤ, ◌+◌, ◌-◌, ◌<◌, ◌≤◌, true, false, cond, ltb, Bool, zero, suc, drop, slice_index_or, map, ◌++◌, append_assoc, List, [], ◌∷◌, Option, Some, None, max, length, refl, sym, ◌∙◌, ap, ap₂, arith, ⊎_elim}
use Rattle.std.specs.Prelude.{slice_set}
use Rattle.std.specs.List.{range_with_len, take_while}
use Rattle.std.proofs.Math.Seq.{set-append_seam}
use Rattle.std.proofs.lemmas.List.{drop_more}
use Rattle.std.proofs.lemmas.List.FromFn.{length-map-range_with_len, map-range_with_len_more, get_or-map-range_with_len}
use Rattle.std.proofs.lemmas.List.Folds.{length-prefix_len}
use Rattle.std.proofs.lemmas.List.Sums.{prefix_len_is}
use Rattle.phase_accum.specs.declared.outcome.Outcome.{Outcome}
use Rattle.phase_accum.specs.declared.outcome.Outcome.TheVariants.{Value, Empty, TooBig}
use Rattle.std.proofs.lemmas.Bool.{cases_eq, cases_lt, ltb-false}
use Rattle.phase_accum.specs.declared.single.Single.{Single}
use Rattle.phase_accum.specs.Singles.{differs}
use Rattle.phase_base.specs.declared.limits.TheConstants.{PHASES_MAX, SENDS_MAX}
use Rattle.phase_accum.specs.Operations.{Operation, AccumulateLaws}
use Rattle.phase_accum.specs.Parcels.{Parcel, parcel, StandsForSends}
use Rattle.phase_accum.proofs.Parts.{StandsForSends-append}
use Rattle.phase_ring.specs.declared.choice.Choice.{Choice}
use Rattle.phase_ring.specs.declared.choice.Choice.TheVariants.{Unsignalled, Plain, Neg, Abs, Halve, Clamp}
use Rattle.phase_ring.specs.Choices.{named_of}
use Rattle.phase_ring.specs.declared.slot.MergeRefusal.TheVariants.{SingleDiffers, PhaseFull}
use Rattle.phase_ring.specs.declared.role.Role.{Role}
use Rattle.phase_ring.specs.declared.role.Role.TheVariants.{Signaller, Waiter}
use Rattle.phase_ring.specs.Rings.{Ring, IsWithin, slot_at, with_slot, standing, sents}
use Rattle.phase_ring.specs.Slots.{Slot, with_standing, standing_of, joined, first_of, merge_refusal, slot_value, IsHeld, IsUnused}
use Rattle.phase_ring.specs.Standings.{one_if_same, other}
use Rattle.phase_ring.specs.Boards.{IsRingAt}
use Rattle.phase_ring.specs.Blocks.{joined_in, block_joined, BlockFits, value_in, value_at, is_not_too_big}
use Rattle.phase_ring.proofs.Kept.{standing-within}
use Rattle.phase_ring.proofs.Slots.{slot_at-some, slot_at-with_other, standing-with_same, merges}
use Rattle.phase_ring.proofs.Moves.{Moves, one-same, one-other, leaves, enters}

-- a phase that refuses nothing gets not too many sends
pub few_joined : {A : Type 0} (slot : Slot A) (n : ℕ) (single : Option Single) → merge_refusal slot n single ≡ None → slot.count + n ≤ SENDS_MAX
few_joined slot n single none =
    ltb-false _ _ (second (differs slot.named single) (ltb SENDS_MAX (slot.count + n)) none)
  where
    second : (one two : Bool) → cond one (Some SingleDiffers) (cond two (Some PhaseFull) None) ≡ None → two ≡ false
    second true two e = absurd (cc)
    second false true e = absurd (cc)
    second false false e = refl

-- the slot with these parts is that which the sends have joined
pub joined_slot : {A : Type 0} (op : Operation A) (slot : Slot A) (held : Parcel A) (single : Option Single) (x : A) (n : ℕ) (named : Option (Option Single))
    → x ≡ op.join slot.part held.part → n ≡ slot.count + held.count → named ≡ first_of slot.named single
    → record slot { part = x; count = n; named = named } ≡ joined op held single slot
joined_slot {A} op slot held single x n named part count first =
    ap (λ (y : A). record slot { part = y; count = n; named = named }) part
    ∙ ap (λ (m : ℕ). record slot { part = op.join slot.part held.part; count = m; named = named }) count
    ∙ ap (λ (o : Option (Option Single)). record slot { part = op.join slot.part held.part; count = slot.count + held.count; named = o }) first

-- it stands for the slot's sends and then those that join
pub joined_held : {A : Type 0} (op : Operation A) (slot : Slot A) (held : Parcel A) (ys : List ℤ) (x : A) (n : ℕ) → AccumulateLaws op
    → IsHeld op slot → StandsForSends op held ys → slot.count + held.count ≤ SENDS_MAX
    → x ≡ op.join slot.part held.part → n ≡ slot.count + held.count → (sends : List ℤ) × StandsForSends op (parcel x n) sends
joined_held {A} op slot held ys x n laws own more few part count =
    let own_parcel : Parcel A = parcel slot.part slot.count in
    (own.0 ++ ys, rw (ap₂ parcel (sym part) (sym count)) at (StandsForSends-append op own_parcel held own.0 ys laws own.1 more few))

-- what was named first stays
pub first_stays : (choice : Choice) (ends : ℤ × ℤ) (single : Option Single) → choice ≢ Unsignalled → named_of choice ends ≡ first_of (named_of choice ends) single
first_stays Unsignalled ends single other = absurd (other refl)
first_stays Plain ends single other = refl
first_stays Neg ends single other = refl
first_stays Abs ends single other = refl
first_stays Halve ends single other = refl
first_stays Clamp ends single other = refl

-- the first sends of a phase are all that its slot has then
pub joined_first : {A : Type 0} (op : Operation A) (slot : Slot A) (held : Parcel A) (single : Option Single) (sends : List ℤ) → AccumulateLaws op
    → IsUnused op slot → StandsForSends op held sends
    → (x : A) (n : ℕ) (named : Option (Option Single)) → x ≡ held.part → n ≡ held.count → named ≡ Some single
    → record slot { part = x; count = n; named = named } ≡ joined op held single slot
joined_first {A} op slot held single sends laws unused stands x n named x_is n_is named_is =
    let part : x ≡ op.join slot.part held.part =
    x_is ∙ sym (laws.left_unit held.part sends stands.part_is) ∙ ap (λ y. op.join y held.part) (sym unused.part_is) in
    let count : n ≡ slot.count + held.count = (let z : slot.count ≡ 0 = unused.count_is in omega arith) in
    let first : named ≡ first_of slot.named single = named_is ∙ ap (λ o. first_of o single) (sym unused.named_is) in
    joined_slot op slot held single x n named part count first

-- later phases refuse nothing more where sends have joined an earlier one
pub fits-later : {A : Type 0} (r : Ring A) (q p : ℕ) (x : Slot A) (rest : List (Parcel A)) (single : Option Single) → r.base ≤ q → q < p
    → BlockFits r p rest single → BlockFits (with_slot q x r) p rest single
fits-later r q p x [] single low later fits = tt
fits-later r q p x (held ∷ rest) single low later fits = (
  λ slot found. fits.0 slot (sym (slot_at-with_other r p q x (omega arith) low (λ e. omega arith)) ∙ found),
  fits-later r q (p + 1) x rest single low (omega arith) fits.1,
)

-- up to phase q the parcels have joined, and these are left
pub record Joining {A : Type 0} (op : Operation A) (r0 r : Ring A) (bound done top q : ℕ) (rest : List (Parcel A)) (single : Option Single) (want : Ring A) : Type 0 where
  pub kept : IsRingAt op r bound done (max top q)
  pub base_same : r.base ≡ r0.base
  pub stands : (role : Role) (p : ℕ) → standing r role p ≡ standing r0 role p
  pub fits : BlockFits r q rest single
  pub left : block_joined op q rest single r ≡ want

pub joins_first : {A : Type 0} (op : Operation A) (r : Ring A) (bound done top q : ℕ) (lists : List (Parcel A)) (single : Option Single)
    → IsRingAt op r bound done top → 0 < standing r Signaller q → BlockFits r q lists single
    → Joining op r r bound done top q lists single (block_joined op q lists single r)
joins_first {A} op r bound done top q lists single k some fits =
    let low : q ≤ top = ⊎_elim (λ above. absurd (let z = k.signals_high q above in omega arith)) (λ x. x) (cases_lt top q) in
    record {
      kept = rw (let e : top ≡ max top q = omega arith in e) at k;
      base_same = refl;
      stands = λ role p. refl;
      fits = fits;
      left = refl;
    }

-- the phase of the next parcel lies within the ring, and before its last slot
pub joins_within : {A : Type 0} (op : Operation A) (r0 r : Ring A) (bound done top q : ℕ) (rest : List (Parcel A)) (single : Option Single) (want : Ring A)
    → Joining op r0 r bound done top q rest single want → done ≤ q → q < r0.base + bound
    → IsWithin r q × (q + 1 < r.base + length r.slots)
joins_within op r0 r bound done top q rest single want j low ahead =
    let a : r.base ≤ done = j.kept.base_done in
    let c : length r.slots ≡ bound + 1 = j.kept.long in
    let b : r.base ≡ r0.base = j.base_same in
    (record { low = omega arith; high = omega arith }, omega arith)

-- from the top on no signal has joined it
pub joins_unused : {A : Type 0} (op : Operation A) (r0 r : Ring A) (bound done top q : ℕ) (rest : List (Parcel A)) (single : Option Single) (want : Ring A)
    → Joining op r0 r bound done top q rest single want → IsWithin r q → top ≤ q → (slot : Slot A) → slot_at r q ≡ Some slot → IsUnused op slot
joins_unused op r0 r bound done top q rest single want j w above slot found = j.kept.unused q slot w.low found (omega arith)

pub joins_next : {A : Type 0} (op : Operation A) (r0 r new : Ring A) (bound done top q : ℕ) (held : Parcel A) (rest : List (Parcel A)) (single : Option Single) (want : Ring A)
    → Joining op r0 r bound done top q (held ∷ rest) single want → done ≤ q → q < r0.base + bound → q < PHASES_MAX
    → ((slot : Slot A) → slot_at r q ≡ Some slot → new ≡ with_slot q (joined op held single slot) r)
    → Joining op r0 new bound done top (q + 1) rest single want
joins_next {A} op r0 r new bound done top q held rest single want j low ahead near goes =
    let w = joins_within op r0 r bound done top q (held ∷ rest) single want j low ahead in
    let b : r.base ≡ r0.base = j.base_same in
    let slot = slot_at-some r q w.0 in
    let x = joined op held single slot.0 in
    let e : new ≡ with_slot q x r = goes slot.0 slot.1 in
    rw e (record {
      kept = rw (let m : max (max top q) (q + 1) ≡ max top (q + 1) = omega arith in m) at (merges op r bound done (max top q) q slot.0 x j.kept w.0 slot.1 (omega arith) near refl refl refl);
      base_same = b;
      stands = λ role p. standing-with_same r q slot.0 x role w.0 slot.1 (same_role role slot.0) p ∙ j.stands role p;
      fits = fits-later r q (q + 1) x rest single w.0.low (omega arith) j.fits.1;
      left = sym (ap (λ o. block_joined op (q + 1) rest single (joined_in op q held single r o)) slot.1) ∙ j.left;
    })
  where
    same_role : (role : Role) (slot : Slot A) → standing_of role (joined op held single slot) ≡ standing_of role slot
    same_role Signaller slot = refl
    same_role Waiter slot = refl

-- ---- one of the role goes from a phase to a later one

pub record Hops {A : Type 0} (op : Operation A) (r new : Ring A) (bound done top : ℕ) (role : Role) (q to : ℕ) : Type 0 where
  pub kept : IsRingAt op new bound done top
  pub base_same : new.base ≡ r.base
  pub sents_same : sents new ≡ sents r
  pub moved : (p : ℕ) → standing new role p + one_if_same q p ≡ standing r role p + one_if_same to p
  pub others : (p : ℕ) → standing new (other role) p ≡ standing r (other role) p

pub hops_on : {A : Type 0} (op : Operation A) (r r' new : Ring A) (bound done top q to : ℕ) (role : Role) → q < to → 0 < standing r role q
    → Moves op r r' bound done top role q (standing r role q - 1)
    → Moves op r' new bound done top role to (standing r' role to + 1)
    → Hops op r new bound done top role q to
hops_on op r r' new bound done top q to role later some left entered = record {
  kept = entered.kept;
  base_same = entered.base_same ∙ left.base_same;
  sents_same = entered.sents_same ∙ left.sents_same;
  moved = λ p. ⊎_elim
      (λ here. let one = one-same q p here in let none = one-other to p (λ e. omega arith) in
      let a : standing new role p ≡ standing r' role p = entered.apart p (λ e. omega arith) in
      let b : standing r' role p ≡ standing r role q - 1 = ap (standing r' role) here ∙ left.at in
      let c : standing r role p ≡ standing r role q = ap (standing r role) here in
      omega arith)
      (λ apart. let none = one-other q p apart in
      let b : standing r' role p ≡ standing r role p = left.apart p apart in
      ⊎_elim
      (λ next. let one = one-same to p next in
      let a : standing new role p ≡ standing r' role to + 1 = ap (standing new role) next ∙ entered.at in
      let d : standing r' role p ≡ standing r' role to = ap (standing r' role) next in
      omega arith)
      (λ away. let none' = one-other to p away in
      let a : standing new role p ≡ standing r' role p = entered.apart p away in
      omega arith)
      (cases_eq p to))
      (cases_eq p q);
  others = λ p. entered.others p ∙ left.others p;
}

-- a signaller has left its phase
pub record SignallerLeft {A : Type 0} (op : Operation A) (r r1 : Ring A) (bound done top q to : ℕ) : Type 0 where
  pub left : Moves op r r1 bound done top Signaller q (standing r Signaller q - 1)
  pub next : IsWithin r1 to
  pub room : standing r1 Signaller to ≡ standing r Signaller to

-- a phase from done to the top lies within the ring
pub signaller-within : {A : Type 0} (op : Operation A) (r : Ring A) (bound done top q : ℕ) → IsRingAt op r bound done top → done ≤ q → q ≤ top → IsWithin r q
signaller-within op r bound done top q k low high =
    let a = k.base_done in
    let b = k.top_bound in
    let c = k.long in
    record { low = omega arith; high = omega arith }

pub signaller_leaving : {A : Type 0} (op : Operation A) (r r1 : Ring A) (bound done top q to : ℕ) → IsRingAt op r bound done top → done ≤ q → q < to → to ≤ top
    → ((slot : Slot A) → slot_at r q ≡ Some slot → r1 ≡ with_slot q (with_standing Signaller (standing_of Signaller slot - 1) slot) r)
    → SignallerLeft op r r1 bound done top q to
signaller_leaving op r r1 bound done top q to k low later high left =
    let l = leaves op r r1 bound done top q Signaller k (signaller-within op r bound done top q k low (omega arith)) (low, omega arith) left in
    record {
      left = l;
      next = signaller-within op r1 bound done top to l.kept (omega arith) high;
      room = l.apart to (λ e. omega arith);
    }

pub signaller_entering : {A : Type 0} (op : Operation A) (r r1 r2 : Ring A) (bound done top q to : ℕ)
    → SignallerLeft op r r1 bound done top q to → done ≤ q → q < to → to ≤ top → 0 < standing r Signaller q
    → ((slot : Slot A) → slot_at r1 to ≡ Some slot → r2 ≡ with_slot to (with_standing Signaller (standing_of Signaller slot + 1) slot) r1)
    → Hops op r r2 bound done top Signaller q to
signaller_entering op r r1 r2 bound done top q to l low later high some entered =
    hops_on op r r1 r2 bound done top q to Signaller later some l.left
    (enters op r1 r2 bound done top to Signaller l.left.kept l.next (omega arith, high) entered)

-- ---- the parcels by their places

pub drop-all : {X : Type 0} (xs : List X) (i : ℕ) → length xs ≤ i → drop i xs ≡ []
drop-all [] zero past = refl
drop-all [] (suc i) past = refl
drop-all (x ∷ xs) zero past = absurd (omega arith)
drop-all (x ∷ xs) (suc i) past = drop-all xs i (omega arith)

pub joins_here : {A : Type 0} (op : Operation A) (r0 r : Ring A) (bound done top q i : ℕ) (lists : List (Parcel A)) (held : Parcel A) (single : Option Single) (want : Ring A)
    → Joining op r0 r bound done top q (drop i lists) single want → i < length lists → held ≡ slice_index_or lists i held
    → Joining op r0 r bound done top q (held ∷ drop (i + 1) lists) single want
joins_here {A} op r0 r bound done top q i lists held single want j inside is =
    rw (drop_more lists i held inside ∙ ap (λ x. x ∷ drop (i + 1) lists) (sym is)) at j

pub joins_last : {A : Type 0} (op : Operation A) (r0 r : Ring A) (bound done top q q' i : ℕ) (lists : List (Parcel A)) (single : Option Single) (want : Ring A)
    → Joining op r0 r bound done top q (drop i lists) single want → length lists ≤ i → q ≡ q'
    → Joining op r0 r bound done top q' [] single want
joins_last {A} op r0 r bound done top q q' i lists single want j past same =
    rw same at (rw (drop-all lists i past) at j)

-- what the loop over a block's parcels keeps
pub record BlockLoop {A : Type 0} (op : Operation A) (r0 r : Ring A) (bound done top phase next i : ℕ) (lists : List (Parcel A)) (single : Option Single) : Type 0 where
  pub joining : Joining op r0 r bound done top next (drop i lists) single (block_joined op phase lists single r0)
  pub next_is : next ≡ phase + i

-- ---- a wait for a block

-- a place more has its value
pub fills : (f : ℕ → Outcome) (phase i : ℕ) (old out : List Outcome) (v : Outcome) → i < length old
    → out ≡ map f (range_with_len phase i) ++ drop i old → v ≡ f (phase + i)
    → slice_set out i v ≡ map f (range_with_len phase (i + 1)) ++ drop (i + 1) old
fills f phase i old out v inside is value =
    let front = map f (range_with_len phase i) in
    let long : length front ≡ i = length-map-range_with_len f phase i in
    let rest = drop (i + 1) old in
    let d = slice_index_or old i v in
    ap (λ xs. slice_set xs i v) (is ∙ ap (λ ys. front ++ ys) (drop_more old i v inside))
    ∙ ap (λ n. slice_set (front ++ d ∷ rest) n v) (sym long)
    ∙ set-append_seam front d rest v
    ∙ sym (append_assoc front (v ∷ []) rest)
    ∙ ap (λ xs. xs ++ rest) (ap (λ x. front ++ x ∷ []) value ∙ sym (map-range_with_len_more f phase i (phase + i) refl))

-- so many values are in range, and then there is none or one that is too big
pub counts_in_range : (f : ℕ → Outcome) (phase most i : ℕ) → i ≤ most
    → ((k : ℕ) → k < i → is_not_too_big (f (phase + k)) ≡ true)
    → (i < most → is_not_too_big (f (phase + i)) ≡ false)
    → i ≡ length (take_while is_not_too_big (map f (range_with_len phase most)))
counts_in_range f phase most i few fit stops =
    let xs = map f (range_with_len phase most) in
    let long : length xs ≡ most = length-map-range_with_len f phase most in
    let at : (k : ℕ) → k < most → slice_index_or xs k (f phase) ≡ f (phase + k) =
    λ k inside. get_or-map-range_with_len f phase most k (phase + k) (f phase) inside refl in
    sym (length-prefix_len is_not_too_big xs ∙ prefix_len_is is_not_too_big xs i (f phase) (omega arith)
    (λ k below. ap is_not_too_big (at k (omega arith)) ∙ fit k below)
    (λ more. ap is_not_too_big (at i (omega arith)) ∙ stops (omega arith)))

pub not_too_big : (o : Outcome) → (o ≡ TooBig → ⊥) → is_not_too_big o ≡ true
not_too_big (Value v) other = refl
not_too_big Empty other = refl
not_too_big TooBig other = absurd (other refl)

-- one more value is in range
pub fits_one_more : (f : ℕ → Outcome) (phase i : ℕ)
    → ((k : ℕ) → k < i → is_not_too_big (f (phase + k)) ≡ true)
    → is_not_too_big (f (phase + i)) ≡ true
    → (k : ℕ) → k < i + 1 → is_not_too_big (f (phase + k)) ≡ true
fits_one_more f phase i fit next k below =
    ⊎_elim (λ before. fit k before) (λ past. let e : k ≡ i = omega arith in
    ap (λ n. is_not_too_big (f (phase + n))) e ∙ next) (cases_lt k i)

-- the value of a slot that is there
pub value_at-slot : {A : Type 0} (op : Operation A) (r : Ring A) (p : ℕ) (v : Outcome) → IsWithin r p
    → ((slot : Slot A) → slot_at r p ≡ Some slot → v ≡ slot_value op slot) → v ≡ value_at op r p
value_at-slot op r p v w value =
    let slot = slot_at-some r p w in
    value slot.0 slot.1 ∙ sym (ap (value_in op) slot.1)

-- each phase of the block lies within the ring
pub block-within : {A : Type 0} (op : Operation A) (r : Ring A) (bound done top q p : ℕ) → IsRingAt op r bound done top → 0 < standing r Waiter q
    → q ≤ p → p ≤ done → IsWithin r p
block-within op r bound done top q p k some low high =
    let t = k.done_top in
    let b = k.top_bound in
    let l = k.long in
    let w = standing-within r Waiter q some in
    let base = w.low in
    record { low = omega arith; high = omega arith }

-- the waiter has left its phase
pub record WaiterLeft {A : Type 0} (op : Operation A) (r r1 : Ring A) (bound done top q to : ℕ) : Type 0 where
  pub left : Moves op r r1 bound done top Waiter q (standing r Waiter q - 1)
  pub next : IsWithin r1 to
  pub room : standing r1 Waiter to ≡ standing r Waiter to

pub waiter_leaving : {A : Type 0} (op : Operation A) (r r1 : Ring A) (bound done top q to : ℕ) → IsRingAt op r bound done top → q < to → to ≤ done → 0 < standing r Waiter q
    → ((slot : Slot A) → slot_at r q ≡ Some slot → r1 ≡ with_slot q (with_standing Waiter (standing_of Waiter slot - 1) slot) r)
    → WaiterLeft op r r1 bound done top q to
waiter_leaving op r r1 bound done top q to k later complete some left =
    let w = block-within op r bound done top q q k some (omega arith) (omega arith) in
    let w' = block-within op r bound done top q to k some (omega arith) complete in
    let l = leaves op r r1 bound done top q Waiter k w (omega arith) left in
    let base = l.base_same in
    let long = l.kept.long in
    let long' = k.long in
    let lo = w'.low in
    let hi = w'.high in
    record {
      left = l;
      next = record { low = omega arith; high = omega arith };
      room = l.apart to (λ e. omega arith);
    }

pub waiter_entering : {A : Type 0} (op : Operation A) (r r1 r2 : Ring A) (bound done top q to : ℕ) → WaiterLeft op r r1 bound done top q to → q < to → to ≤ done → 0 < standing r Waiter q
    → ((slot : Slot A) → slot_at r1 to ≡ Some slot → r2 ≡ with_slot to (with_standing Waiter (standing_of Waiter slot + 1) slot) r1)
    → Hops op r r2 bound done top Waiter q to
waiter_entering op r r1 r2 bound done top q to l later complete some entered =
    hops_on op r r1 r2 bound done top q to Waiter later some l.left
    (enters op r1 r2 bound done top to Waiter l.left.kept l.next complete entered)

pub waits-there : {A : Type 0} (op : Operation A) (r r2 : Ring A) (bound done top q to : ℕ) → q < to → Hops op r r2 bound done top Waiter q to → 0 < standing r2 Waiter to
waits-there op r r2 bound done top q to later s =
    let m = s.moved to in
    let one = one-same to to refl in
    let none = one-other q to (λ e. omega arith) in
    omega arith

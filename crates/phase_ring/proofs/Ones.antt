-- The values of phases of one send each.
use Rattle.std.proofs.Common.{◌≡◌, ℕ, zero, suc, ◌+◌, ◌-◌, ◌<◌, ◌≤◌, ℤ, pos, List, [], ◌∷◌, ◌++◌, Some, length, map, take, drop, get_or, set, replicate, refl, sym, ap, ◌∙◌, arith}
use Rattle.std.specs.Prelude.{slice_get, slice_index_or}
use Rattle.std.specs.List.{range_with_len}
use Rattle.std.proofs.lemmas.List.{append_assoc, drop_more, get_or-drop, length-drop, length-map, length-take, map_more}
use Rattle.std.proofs.Math.Seq.{set-append_seam}
use Rattle.phase_accum.specs.Operations.{Operation}
use Rattle.phase_ring.specs.Blocks.{block_values, value_at, value_in}
use Rattle.phase_ring.specs.Restarts.{one_slot, plain_value, ring_of_ones}
use Rattle.phase_ring.specs.Slots.{Slot, empty_slot}

slot_of_send : {A : Type 0} (op : Operation A) (values : List ℤ) (rest : List (Slot A)) (i : ℕ)
    → i < length values
    → slice_get (map (one_slot op) values ++ rest) i ≡ Some (one_slot op (get_or values i (pos 0)))
slot_of_send op [] rest i below = absurd (omega arith)
slot_of_send op (v ∷ values) rest zero below = refl
slot_of_send op (v ∷ values) rest (suc i) below = slot_of_send op values rest i (omega arith)

-- the value of one
pub value_of_one : {A : Type 0} (op : Operation A) (size base : ℕ) (values : List ℤ) (p : ℕ)
    → base ≤ p → p < base + length values
    → value_at op (ring_of_ones op size base values) p
    ≡ plain_value op (get_or values (p - base) (pos 0))
value_of_one op size base values p low below =
    ap (value_in op) (slot_of_send op values (replicate (size - length values) (empty_slot op))
    (p - base) (omega arith))

map-taken : {Y : Type 0} (f : ℤ → Y) (g : ℕ → Y) (xs : List ℤ) (a n : ℕ) → n ≤ length xs
    → ((i : ℕ) → i < n → f (get_or xs i (pos 0)) ≡ g (a + i))
    → map f (take n xs) ≡ map g (range_with_len a n)
map-taken f g xs a zero few same = refl
map-taken f g [] a (suc n) few same = absurd (omega arith)
map-taken f g (x ∷ xs) a (suc n) few same =
    ap (λ y. y ∷ map f (take n xs)) (same 0 (omega arith) ∙ ap g (let z : a + 0 ≡ a = omega arith in z))
    ∙ ap (λ l. g a ∷ l) (map-taken f g xs (a + 1) n (omega arith) (λ i below.
    same (suc i) (omega arith) ∙ ap g (let z : a + suc i ≡ a + 1 + i = omega arith in z)))

-- the values of some in a row
pub values_of_ones : {A : Type 0} (op : Operation A) (size base : ℕ) (values : List ℤ)
    (phase count : ℕ) → base ≤ phase → phase + count ≤ base + length values
    → map (plain_value op) (take count (drop (phase - base) values))
    ≡ block_values op (ring_of_ones op size base values) phase count
values_of_ones op size base values phase count low complete =
    let s = phase - base in
    map-taken (plain_value op) (value_at op (ring_of_ones op size base values)) (drop s values) phase
    count (omega (arith, length-drop s values)) (λ i below.
    let at : phase + i - base ≡ s + i = omega arith in
    ap (plain_value op) (get_or-drop s values i (pos 0) ∙ ap (λ k. get_or values k (pos 0)) (sym at))
    ∙ sym (value_of_one op size base values (phase + i) (omega arith) (omega arith)))

-- a place more has its value
pub ones_fill : {Y : Type 0} (f : ℤ → Y) (values : List ℤ) (old out : List Y) (i : ℕ) (y : Y)
    (d : ℤ) → i < length values → length values ≤ length old
    → out ≡ map f (take i values) ++ drop i old → y ≡ f (get_or values i d)
    → set out i y ≡ map f (take (i + 1) values) ++ drop (i + 1) old
ones_fill f values old out i y d within room is value =
    let front = map f (take i values) in
    let long : length front ≡ i = omega (arith, length-map (take i values) f, length-take i values) in
    let rest = drop (i + 1) old in
    let x = slice_index_or old i y in
    ap (λ xs. set xs i y) (is ∙ ap (λ ys. front ++ ys) (drop_more old i y (omega arith)))
    ∙ ap (λ n. set (front ++ x ∷ rest) n y) (sym long)
    ∙ set-append_seam front x rest y
    ∙ sym (append_assoc front (y ∷ []) rest)
    ∙ ap (λ xs. xs ++ rest) (ap (λ z. front ++ z ∷ []) value ∙ sym (map_more f values i d within))

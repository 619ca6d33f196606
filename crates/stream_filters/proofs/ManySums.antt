-- Weighted sums of many windows at once.
use Rattle.std.proofs.Common.{◌≡◌, ℕ, zero, suc, ◌+◌, ◌-◌, ◌^◌, ◌<◌, ◌≤◌, List, [], ◌∷◌, length, map, take, drop, get_or, ℤ, pos, ◌+ℤ◌, ◌*ℤ◌, w64, of_z, to_z, refl, sym, ap, subst, ◌∙◌, zero-add, arith}
use Rattle.std.specs.Prelude.{unsigned_abs, replicate}
use Rattle.std.specs.List.{range_with_len}
use Rattle.std.specs.Simd.Lanes.{zip2, Each1, Each2}
use Rattle.std.proofs.Math.IntN.{+ℤ_assoc, +ℤ_idl, +ℤ_idr}
use Rattle.std.proofs.lemmas.List.{same_lists, get_or_default, take_all, take_rest}
use Rattle.std.proofs.lemmas.List.FromFn.{length-map-range_with_len, get_or-map-range_with_len}
use Rattle.std.proofs.lemmas.List.Sums.{sum_by-take-le}
use Rattle.std.proofs.lemmas.Nat.{mul-le}
use Rattle.std.proofs.lemmas.Simd.{length-chunk, get_or-chunk, map-map, zip2_of_maps}
use Rattle.stream_filters.specs.Sums.{shifted_down, weighted, weight}
use Rattle.stream_filters.specs.declared.form.Form.{Form}
use Rattle.stream_filters.specs.WeigherFields.{IsNarrow}
use Rattle.stream_filters.specs.Lanes.{before, output_shown, IsShort, AddsUp}
use Rattle.stream_filters.proofs.Lanes.{product-short, short-64, lanes-64, products-handed}
use Rattle.stream_filters.proofs.Outputs.{map-range_with_len_same}
use Rattle.stream_filters.proofs.Weighted.{abs_add, weighted-small, at_place-small, shifted_down-le}

-- ---- facts of each of so many values

pub Each1-maps : (P : ℤ → Type 0) (f : ℕ → ℤ) (ks : List ℕ) → ((k : ℕ) → P (f k))
    → Each1 P (map f ks)
Each1-maps P f [] each = tt
Each1-maps P f (k ∷ ks) each = (each k, Each1-maps P f ks each)

pub Each2-maps : (P : ℤ → ℤ → Type 0) (f g : ℕ → ℤ) (ks : List ℕ) → ((k : ℕ) → P (f k) (g k))
    → Each2 P (map f ks) (map g ks)
Each2-maps P f g [] each = tt
Each2-maps P f g (k ∷ ks) each = (each k, Each2-maps P f g ks each)

-- ---- one window

-- one more tap
pub weighted-take : (at : ℕ → ℤ) (taps : List ℤ) (j : ℕ) → j < length taps
    → weighted at (take (suc j) taps)
    ≡ weighted at (take j taps) +ℤ (get_or taps j (pos 0) *ℤ at j)
weighted-take at [] j lt = absurd (omega arith)
weighted-take at (tap ∷ taps) zero lt = +ℤ_idr (tap *ℤ at 0) ∙ sym (+ℤ_idl (tap *ℤ at 0))
weighted-take at (tap ∷ taps) (suc j) lt =
    ap (λ z. (tap *ℤ at 0) +ℤ z) (weighted-take (λ i. at (suc i)) taps j (omega arith))
    ∙ sym (+ℤ_assoc (tap *ℤ at 0) _ _)

-- the sum of the window that ends k samples after the first one, over the first j taps
abbrev pub sum_after : List ℤ → List ℤ → ℕ → ℕ → ℤ
sum_after taps samples j k = weighted (before samples (length taps - 1 + k)) (take j taps)

-- what tap number j adds to it
abbrev pub product_at : List ℤ → List ℤ → ℕ → ℕ → ℤ
product_at taps samples j k = get_or taps j (pos 0) *ℤ before samples (length taps - 1 + k) j

pub before-small : (taps : List ℤ) (plus : ℤ) (samples : List ℤ) (narrow : IsNarrow taps plus samples) (n j : ℕ)
    → unsigned_abs (before samples n j) ≤ narrow.limit
before-small taps plus samples narrow n j = at_place-small narrow.limit samples narrow.small (n - j)

pub before-short : (taps : List ℤ) (plus : ℤ) (samples : List ℤ) → IsNarrow taps plus samples → (n j : ℕ)
    → IsShort (before samples n j)
before-short taps plus samples narrow n j =
    let small = before-small taps plus samples narrow n j in
    let short = narrow.short in
    record { short = omega arith }

pub tap-short : (taps : List ℤ) (plus : ℤ) (samples : List ℤ) → IsNarrow taps plus samples → (j : ℕ) (d : ℤ) → j < length taps
    → IsShort (get_or taps j d)
tap-short taps plus samples narrow j d lt = record { short = narrow.short_taps j d lt }

pub sum_after-small : (taps : List ℤ) (plus : ℤ) (samples : List ℤ) → IsNarrow taps plus samples → (j k : ℕ)
    → unsigned_abs (sum_after taps samples j k) < 2 ^ 63
sum_after-small taps plus samples narrow j k =
    let n = length taps - 1 + k in
    let small = weighted-small narrow.limit (before samples n) (take j taps)
    (before-small taps plus samples narrow n) in
    let light = mul-le (weight (take j taps)) narrow.limit (weight taps) narrow.limit
    (sum_by-take-le unsigned_abs taps j) (omega arith) in
    let fits = narrow.fits in
    omega arith

pub adds_up : (taps : List ℤ) (plus : ℤ) (samples : List ℤ) → IsNarrow taps plus samples → (j : ℕ) → j < length taps → (k : ℕ)
    → AddsUp (sum_after taps samples j k) (product_at taps samples j k)
adds_up taps plus samples narrow j lt k = record {
  sum_fits = sum_after-small taps plus samples narrow j k;
  product_fits = product-short _ _ (tap-short taps plus samples narrow j (pos 0) lt)
      (before-short taps plus samples narrow (length taps - 1 + k) j);
  fits = rw (← weighted-take (before samples (length taps - 1 + k)) taps j lt)
      (sum_after-small taps plus samples narrow (suc j) k);
}

-- ---- 16 windows

abbrev pub sums_after : List ℤ → List ℤ → ℕ → List ℤ
sums_after taps samples j = map (sum_after taps samples j) (range_with_len 0 16)

abbrev pub products_at : List ℤ → List ℤ → ℕ → List ℤ
products_at taps samples j = map (product_at taps samples j) (range_with_len 0 16)

-- the samples at tap number j
abbrev pub lanes_at : List ℤ → List ℤ → ℕ → List ℤ
lanes_at taps samples j = map (λ k. before samples (length taps - 1 + k) j) (range_with_len 0 16)

-- so many samples from number i on
chunk-is : (n i : ℕ) (samples : List ℤ) → i + n ≤ length samples
    → take n (drop i samples) ≡ map (λ k. get_or samples (i + k) (pos 0)) (range_with_len 0 n)
chunk-is n i samples le =
    let f : ℕ → ℤ = λ k. get_or samples (i + k) (pos 0) in
    same_lists _ _ (length-chunk i n samples le ∙ sym (length-map-range_with_len f 0 n)) (λ k d lt.
    let below : k < n = omega (arith, length-chunk i n samples le) in
    get_or-chunk i n samples k d below
    ∙ (get_or_default samples (i + k) d (pos 0) (omega arith)
    ∙ sym (get_or-map-range_with_len f 0 n k k d below (zero-add k))))

lanes_at-is : (taps samples : List ℤ) (j : ℕ) → j < length taps → length samples ≡ length taps + 15
    → take 16 (drop (length taps - 1 - j) samples) ≡ lanes_at taps samples j
lanes_at-is taps samples j lt len =
    chunk-is 16 (length taps - 1 - j) samples (omega arith)
    ∙ map-range_with_len_same _ _ 16 (λ k below.
    let same : length taps - 1 - j + k ≡ length taps - 1 + k - j = omega arith in
    ap (λ i. get_or samples i (pos 0)) same)

-- the lanes that the code reads
pub lanes-read : (taps samples : List ℤ) (j : ℕ) → j < length taps
    → length samples ≡ length taps + 15
    → take 16 (take (length samples - (length taps - 1 - j)) (drop (length taps - 1 - j) samples))
    ≡ lanes_at taps samples j
lanes-read taps samples j lt len =
    ap (take 16) (take_rest samples (length taps - 1 - j)) ∙ lanes_at-is taps samples j lt len

products_at-is : (taps samples : List ℤ) (j : ℕ)
    → zip2 (λ x tap. tap *ℤ x) (lanes_at taps samples j) (replicate 16 (get_or taps j (pos 0)))
    ≡ products_at taps samples j
products_at-is taps samples j = refl

pub sums_after-more : (taps samples : List ℤ) (j : ℕ) → j < length taps
    → zip2 (λ sum product. sum +ℤ product) (sums_after taps samples j) (products_at taps samples j)
    ≡ sums_after taps samples (suc j)
sums_after-more taps samples j lt =
    zip2_of_maps (λ sum product. sum +ℤ product) (sum_after taps samples j)
    (product_at taps samples j)
    (range_with_len 0 16) refl refl
    ∙ map-range_with_len_same _ _ 16 (λ k below.
    sym (weighted-take (before samples (length taps - 1 + k)) taps j lt))

pub sums_after-fit : (taps : List ℤ) (plus : ℤ) (samples : List ℤ) → IsNarrow taps plus samples → (j : ℕ)
    → Each1 (λ z. unsigned_abs z < 2 ^ 63) (sums_after taps samples j)
sums_after-fit taps plus samples narrow j =
    Each1-maps (λ z. unsigned_abs z < 2 ^ 63) (sum_after taps samples j) (range_with_len 0 16)
    (sum_after-small taps plus samples narrow j)

pub products_at-fit : (taps : List ℤ) (plus : ℤ) (samples : List ℤ) → IsNarrow taps plus samples → (j : ℕ) → j < length taps
    → Each1 (λ z. unsigned_abs z < 2 ^ 63) (products_at taps samples j)
products_at-fit taps plus samples narrow j lt =
    Each1-maps (λ z. unsigned_abs z < 2 ^ 63) (product_at taps samples j) (range_with_len 0 16)
    (λ k. (adds_up taps plus samples narrow j lt k).product_fits)

pub lanes_at-short : (taps : List ℤ) (plus : ℤ) (samples : List ℤ) → IsNarrow taps plus samples → (j : ℕ)
    → Each1 IsShort (lanes_at taps samples j)
lanes_at-short taps plus samples narrow j =
    Each1-maps IsShort (λ k. before samples (length taps - 1 + k) j) (range_with_len 0 16)
    (λ k. before-short taps plus samples narrow (length taps - 1 + k) j)

pub lanes-add_up : (taps : List ℤ) (plus : ℤ) (samples : List ℤ) → IsNarrow taps plus samples → (j : ℕ) → j < length taps
    → Each2 AddsUp (sums_after taps samples j) (products_at taps samples j)
lanes-add_up taps plus samples narrow j lt =
    Each2-maps AddsUp (sum_after taps samples j) (product_at taps samples j) (range_with_len 0 16)
    (adds_up taps plus samples narrow j lt)

-- the products that the code makes of the lanes
pub products-made : (taps : List ℤ) (plus : ℤ) (samples lanes result : List ℤ) (j : ℕ)
    → IsNarrow taps plus samples
    → j < length taps
    → lanes ≡ lanes_at taps samples j
    → result ≡ zip2 (λ x tap. tap *ℤ x) (map (to_z w64) (map (of_z w64) lanes))
    (replicate 16 (to_z w64 (of_z w64 (get_or taps j (pos 0)))))
    → result ≡ products_at taps samples j
products-made taps plus samples lanes result j narrow lt lanes_are is =
    products-handed lanes (lanes_at taps samples j) (products_at taps samples j) 16 (get_or taps j
    (pos 0)) _ result is
    (short-64 _ (tap-short taps plus samples narrow j (pos 0) lt)) lanes_are
    (lanes_at-short taps plus samples narrow j)
    (products_at-is taps samples j)

-- ---- shifted down

-- the sum over a window of narrow samples, and what is added to it
pub before-added-fits : (taps : List ℤ) (plus : ℤ) (samples : List ℤ) → IsNarrow taps plus samples
    → (n : ℕ) → unsigned_abs (weighted (before samples n) taps) + unsigned_abs plus < 2 ^ 63
before-added-fits taps plus samples narrow n =
    let small = weighted-small narrow.limit (before samples n) taps
    (before-small taps plus samples narrow n) in
    let fits = narrow.fits in
    omega arith

pub before-added-small : (taps : List ℤ) (plus : ℤ) (samples : List ℤ) → IsNarrow taps plus samples
    → (n : ℕ) → unsigned_abs (weighted (before samples n) taps +ℤ plus) < 2 ^ 63
before-added-small taps plus samples narrow n =
    let both = abs_add (weighted (before samples n) taps) plus in
    let fits = before-added-fits taps plus samples narrow n in
    omega (arith, both)

-- all taps are summed
sums_after-all : (taps samples : List ℤ) (j : ℕ) → length taps ≤ j → sums_after taps samples j
    ≡ map (λ k. weighted (before samples (length taps - 1 + k)) taps) (range_with_len 0 16)
sums_after-all taps samples j le =
    ap (λ ts. map (λ k. weighted (before samples (length taps - 1 + k)) ts) (range_with_len 0 16))
    (take_all j taps le)

-- the sums are handed on
pub sums-back : (taps : List ℤ) (plus : ℤ) (samples : List ℤ) (j : ℕ) (bits : List ℕ)
    → IsNarrow taps plus samples → bits ≡ map (of_z w64) (sums_after taps samples j)
    → map (to_z w64) bits ≡ sums_after taps samples j
sums-back taps plus samples j bits narrow is =
    ap (map (to_z w64)) is ∙ lanes-64 (sums_after taps samples j)
    (sums_after-fit taps plus samples narrow j)

-- the sums with what is added to each
abbrev pub sums_added : List ℤ → ℤ → List ℤ → List ℤ
sums_added taps plus samples =
    map (λ k. weighted (before samples (length taps - 1 + k)) taps +ℤ plus) (range_with_len 0 16)

-- something can be added to each of them
pub sums_after-added-fit : (taps : List ℤ) (plus : ℤ) (samples : List ℤ) (j : ℕ)
    → IsNarrow taps plus samples → length taps ≤ j
    → Each1 (λ z. unsigned_abs z + unsigned_abs plus < 2 ^ 63) (sums_after taps samples j)
sums_after-added-fit taps plus samples j narrow le =
    subst (Each1 (λ z. unsigned_abs z + unsigned_abs plus < 2 ^ 63))
    (sym (sums_after-all taps samples j le))
    (Each1-maps (λ z. unsigned_abs z + unsigned_abs plus < 2 ^ 63)
    (λ k. weighted (before samples (length taps - 1 + k)) taps) (range_with_len 0 16)
    (λ k. before-added-fits taps plus samples narrow (length taps - 1 + k)))

-- it is added, as the code hands it on
pub sums-added : (taps : List ℤ) (plus given : ℤ) (samples : List ℤ) (j : ℕ) (bits : List ℕ)
    (result : List ℤ) → IsNarrow taps plus samples → length taps ≤ j
    → bits ≡ map (of_z w64) (sums_after taps samples j) → given ≡ plus
    → result ≡ map (λ sum. sum +ℤ given) (map (to_z w64) bits)
    → result ≡ sums_added taps plus samples
sums-added taps plus given samples j bits result narrow le bits_are given_is is =
    is ∙ ap (λ p. map (λ sum. sum +ℤ p) (map (to_z w64) bits)) given_is ∙ (ap (map (λ sum. sum +ℤ plus))
    (sums-back taps plus samples j bits narrow bits_are ∙ sums_after-all taps samples j le)
    ∙ map-map (λ sum. sum +ℤ plus) (λ k. weighted (before samples (length taps - 1 + k)) taps)
    (range_with_len 0 16))

pub sums_added-fit : (taps : List ℤ) (plus : ℤ) (samples : List ℤ) → IsNarrow taps plus samples
    → Each1 (λ z. unsigned_abs z < 2 ^ 63) (sums_added taps plus samples)
sums_added-fit taps plus samples narrow =
    Each1-maps (λ z. unsigned_abs z < 2 ^ 63)
    (λ k. weighted (before samples (length taps - 1 + k)) taps +ℤ plus) (range_with_len 0 16)
    (λ k. before-added-small taps plus samples narrow (length taps - 1 + k))

-- and it comes back as it was
pub sums_added-back : (taps : List ℤ) (plus : ℤ) (samples result : List ℤ)
    → IsNarrow taps plus samples → result ≡ sums_added taps plus samples
    → map (to_z w64) (map (of_z w64) result) ≡ sums_added taps plus samples
sums_added-back taps plus samples result narrow is =
    ap (λ l. map (to_z w64) (map (of_z w64) l)) is
    ∙ lanes-64 (sums_added taps plus samples) (sums_added-fit taps plus samples narrow)

pub shifted-all : (taps : List ℤ) (form : Form) (samples : List ℤ)
    → map (λ sum. shifted_down sum form.shift) (sums_added taps form.plus samples)
    ≡ map (output_shown taps form samples) (range_with_len 0 16)
shifted-all taps form samples =
    map-map (λ sum. shifted_down sum form.shift) (λ k. weighted (before samples
    (length taps - 1 + k)) taps +ℤ form.plus) (range_with_len 0 16)

pub output_shown-small : (taps : List ℤ) (form : Form) (samples : List ℤ)
    → IsNarrow taps form.plus samples → (k : ℕ)
    → unsigned_abs (output_shown taps form samples k) < 2 ^ 63
output_shown-small taps form samples narrow k =
    let sum = weighted (before samples (length taps - 1 + k)) taps +ℤ form.plus in
    let le = shifted_down-le sum form.shift in
    let small = before-added-small taps form.plus samples narrow (length taps - 1 + k) in
    omega arith

pub outputs-handed : (taps : List ℤ) (form : Form) (samples sums result : List ℤ)
    → IsNarrow taps form.plus samples → sums ≡ sums_added taps form.plus samples
    → result ≡ map (λ sum. shifted_down sum form.shift) (map (to_z w64) (map (of_z w64) sums))
    → map (to_z w64) (map (of_z w64) result)
    ≡ map (output_shown taps form samples) (range_with_len 0 16)
outputs-handed taps form samples sums result narrow sums_are is =
    let outputs_are : result ≡ map (output_shown taps form samples) (range_with_len 0 16) =
    is ∙ (ap (map (λ sum. shifted_down sum form.shift))
    (sums_added-back taps form.plus samples sums narrow sums_are) ∙ shifted-all taps form samples) in
    ap (λ r. map (to_z w64) (map (of_z w64) r)) outputs_are
    ∙ lanes-64 (map (output_shown taps form samples) (range_with_len 0 16))
    (Each1-maps (λ z. unsigned_abs z < 2 ^ 63) (output_shown taps form samples)
    (range_with_len 0 16)
    (output_shown-small taps form samples narrow))

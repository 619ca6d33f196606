-- Weighted sums of windows.
use Rattle.std.proofs.Common.{◌≡◌, ℕ, zero, suc, ◌+◌, ◌*◌, ◌^◌, ◌<◌, ◌≤◌, List, [], ◌∷◌, ◌++◌, length, min, get_or, take, reverse, ℤ, pos, negsuc, ◌+ℤ◌, ◌*ℤ◌, Ok, refl, sym, ap, ◌∙◌, arith, ◌⊎◌, inl, inr}
use Rattle.std.specs.List.{All}
use Rattle.std.specs.Prelude.{unsigned_abs}
use Rattle.std.proofs.Math.IntN.{+ℤ_assoc, +ℤ_idl, +ℤ_idr, *ℤ-zero}
use Rattle.std.proofs.lemmas.Int.{ints, unsigned_abs-mul}
use Rattle.std.proofs.lemmas.List.{take_more, take_all, length-take, length-take-le, get_or_default, get_or-take}
use Rattle.std.proofs.lemmas.List.Sums.{sum_by-cons, sum_by_more, sum_by-take-le}
use Rattle.std.proofs.lemmas.Nat.{mul-le, shr_le}
use Rattle.std.proofs.lemmas.Bool.{cases_lt}
use Rattle.std.proofs.lemmas.Bool.Decides.{nat_tests}
use Rattle.stream_filters.specs.Sums.{weighted, at_place, back, weight, shifted_down}
use Rattle.stream_filters.specs.Range.{ranged}
use Rattle.stream_filters.specs.WeigherFields.{IsNarrowBack}

-- only what stands below the number of taps counts
pub weighted-same : (f g : ℕ → ℤ) (taps : List ℤ) → ((j : ℕ) → j < length taps → f j ≡ g j)
    → weighted f taps ≡ weighted g taps
weighted-same f g [] same = refl
weighted-same f g (tap ∷ taps) same =
    let here : f 0 ≡ g 0 = same 0 (omega arith) in
    let rest : weighted (λ j. f (suc j)) taps ≡ weighted (λ j. g (suc j)) taps =
    weighted-same (λ j. f (suc j)) (λ j. g (suc j)) taps (λ j lt. same (suc j) (omega arith)) in
    ap (λ z. (tap *ℤ z) +ℤ weighted (λ j. f (suc j)) taps) here
    ∙ ap (λ z. (tap *ℤ g 0) +ℤ z) rest

-- zeros add nothing
pub weighted-zero : (taps : List ℤ) → weighted (at_place []) taps ≡ pos 0
weighted-zero [] = refl
weighted-zero (tap ∷ taps) =
    ap (λ z. z +ℤ weighted (at_place []) taps) (*ℤ-zero tap) ∙ (+ℤ_idl _ ∙ weighted-zero taps)

-- one more sample of a window that has fewer than there are taps
pub weighted-push : (xs : List ℤ) (taps : List ℤ) (x : ℤ) → length xs < length taps
    → weighted (at_place (xs ++ x ∷ [])) taps
    ≡ weighted (at_place xs) taps +ℤ (get_or taps (length xs) (pos 0) *ℤ x)
weighted-push xs [] x lt = absurd (omega arith)
weighted-push [] (tap ∷ taps) x lt =
    let none : weighted (at_place []) (tap ∷ taps) ≡ pos 0 = weighted-zero (tap ∷ taps) in
    let rest : (tap *ℤ x) +ℤ weighted (at_place []) taps ≡ (tap *ℤ x) +ℤ pos 0 =
    ap (λ z. (tap *ℤ x) +ℤ z) (weighted-zero taps) in
    let left : (tap *ℤ x) +ℤ pos 0 ≡ tap *ℤ x = +ℤ_idr _ in
    let right : pos 0 +ℤ (tap *ℤ x) ≡ tap *ℤ x = +ℤ_idl _ in
    cc (rest, left, right, none)
weighted-push (y ∷ xs) (tap ∷ taps) x lt =
    ap (λ z. (tap *ℤ y) +ℤ z) (weighted-push xs taps x (omega arith)) ∙ sym (+ℤ_assoc (tap *ℤ y) _ _)

-- a sum is at most the magnitudes together
pub abs_add : (a b : ℤ) → unsigned_abs (a +ℤ b) ≤ unsigned_abs a + unsigned_abs b
abs_add (pos a) (pos b) = omega arith
abs_add (pos a) (negsuc b) = grind (arith, ints)
abs_add (negsuc a) (pos b) = grind (arith, ints)
abs_add (negsuc a) (negsuc b) = omega arith

-- a sum over samples of at most this magnitude
pub weighted-small : (limit : ℕ) (at : ℕ → ℤ) (taps : List ℤ) → ((j : ℕ) → unsigned_abs (at j) ≤ limit)
    → unsigned_abs (weighted at taps) ≤ weight taps * limit
weighted-small limit at [] small = omega arith
weighted-small limit at (tap ∷ taps) small =
    let rest : unsigned_abs (weighted (λ j. at (suc j)) taps) ≤ weight taps * limit =
    weighted-small limit (λ j. at (suc j)) taps (λ j. small (suc j)) in
    let here : unsigned_abs (tap *ℤ at 0) ≤ unsigned_abs tap * limit =
    rw (unsigned_abs-mul tap (at 0)) (mul-le (unsigned_abs tap) (unsigned_abs (at 0)) (unsigned_abs tap) limit (omega arith) (small 0)) in
    let both = abs_add (tap *ℤ at 0) (weighted (λ j. at (suc j)) taps) in
    rw (sum_by-cons unsigned_abs tap taps) (omega arith)

-- after i samples: the sum so far, of samples of at most this magnitude
pub record IsSumOf (limit : ℕ) (taps samples : List ℤ) (i : ℕ) (sum : ℤ) : Type 0 where
  pub is : sum ≡ weighted (at_place (take i samples)) taps
  pub small : unsigned_abs sum ≤ weight (take i taps) * limit

-- no sample
pub IsSumOf-none : (limit : ℕ) (taps samples : List ℤ) → IsSumOf limit taps samples 0 (pos 0)
IsSumOf-none limit taps samples = record { is = sym (weighted-zero taps); small = omega arith }

-- one more sample
pub IsSumOf-more : (limit : ℕ) (taps samples : List ℤ) (i : ℕ) (sum tap x : ℤ) → IsSumOf limit taps samples i sum
    → i < length samples → i < length taps → tap ≡ get_or taps i (pos 0)
    → x ≡ get_or samples i (pos 0) → unsigned_abs x ≤ limit
    → IsSumOf limit taps samples (i + 1) (sum +ℤ (tap *ℤ x))
IsSumOf-more limit taps samples i sum tap x so_far lt few tap_is x_is x_small =
    let more : take (i + 1) samples ≡ take i samples ++ x ∷ [] =
    take_more samples i (pos 0) lt ∙ ap (λ z. take i samples ++ z ∷ []) (sym x_is) in
    let len : length (take i samples) ≡ i = length-take-le i samples (omega arith) in
    let pushed : weighted (at_place (take i samples ++ x ∷ [])) taps
    ≡ weighted (at_place (take i samples)) taps +ℤ (get_or taps (length (take i samples)) (pos 0) *ℤ x) =
    weighted-push (take i samples) taps x (omega arith) in
    let tap_at : get_or taps (length (take i samples)) (pos 0) ≡ tap =
    ap (λ n. get_or taps n (pos 0)) len ∙ sym tap_is in
    let weights : weight (take (i + 1) taps) ≡ weight (take i taps) + unsigned_abs tap =
    sum_by_more unsigned_abs taps i (pos 0) few ∙ ap (λ z. weight (take i taps) + unsigned_abs z) (sym tap_is) in
    let here : unsigned_abs (tap *ℤ x) ≤ unsigned_abs tap * limit =
    rw (unsigned_abs-mul tap x) (mul-le (unsigned_abs tap) (unsigned_abs x) (unsigned_abs tap) limit (omega arith) x_small) in
    let both = abs_add sum (tap *ℤ x) in
    let smalls : unsigned_abs sum ≤ weight (take i taps) * limit = so_far.small in
    record {
      is = ap (λ z. z +ℤ (tap *ℤ x)) so_far.is
          ∙ (ap (λ z. weighted (at_place (take i samples)) taps +ℤ (z *ℤ x)) (sym tap_at)
          ∙ (sym pushed ∙ ap (λ z. weighted (at_place z) taps) (sym more)));
      small = rw weights (omega arith);
    }

-- the bound of the sum so far is one of the whole
pub IsSumOf-small : (limit : ℕ) (taps samples : List ℤ) (i : ℕ) (sum : ℤ) → IsSumOf limit taps samples i sum
    → unsigned_abs sum ≤ weight taps * limit
IsSumOf-small limit taps samples i sum so_far =
    let part = mul-le (weight (take i taps)) limit (weight taps) limit (sum_by-take-le unsigned_abs taps i) (omega arith) in
    let small = so_far.small in
    omega (arith, part)

-- as many samples as there are taps, or all, are enough
taken-same : (taps samples : List ℤ) (i : ℕ) → min (length taps) (length samples) ≤ i → (j : ℕ)
    → j < length taps → at_place (take i samples) j ≡ at_place samples j
taken-same taps samples i le j lt = by (cases_lt j i)
  where
    by : (j < i) ⊎ (i ≤ j) → at_place (take i samples) j ≡ at_place samples j
    by (inl below) = get_or-take i samples j (pos 0) below
    by (inr above) = ap (λ xs. at_place xs j) (take_all i samples (omega arith))

pub IsSumOf-enough : (limit : ℕ) (taps samples : List ℤ) (i : ℕ) (sum : ℤ) → IsSumOf limit taps samples i sum
    → min (length taps) (length samples) ≤ i → sum ≡ weighted (at_place samples) taps
IsSumOf-enough limit taps samples i sum so_far le =
    so_far.is ∙ weighted-same _ _ taps (taken-same taps samples i le)

-- what stands in a list of small samples is small, and so is the 0 past its end
pub at_place-small : (limit : ℕ) (samples : List ℤ) → All (λ x. unsigned_abs x ≤ limit) samples
    → (j : ℕ) → unsigned_abs (at_place samples j) ≤ limit
at_place-small limit [] small j = omega arith
at_place-small limit (x ∷ samples) small zero = small 0 (pos 0) (omega arith)
at_place-small limit (x ∷ samples) small (suc j) =
    at_place-small limit samples (λ k d lt. small (suc k) d (omega arith)) j

-- a sum over narrow samples, of which there are as many as taps
pub IsNarrowBack-small : (taps : List ℤ) (plus : ℤ) (samples : List ℤ)
    → IsNarrowBack taps plus samples
    → unsigned_abs (weighted (back samples) taps) + unsigned_abs plus < 2 ^ 63
IsNarrowBack-small taps plus samples narrow =
    let shown = at_place (take (length taps) (reverse samples)) in
    let same : weighted (back samples) taps ≡ weighted shown taps =
    weighted-same (back samples) shown taps
    (λ j lt. sym (get_or-take (length taps) (reverse samples) j (pos 0) lt)) in
    let small = weighted-small narrow.limit shown taps
    (at_place-small narrow.limit (take (length taps) (reverse samples)) (λ k d lt.
    let few : k < length taps =
    omega (arith, length-take (length taps) (reverse samples)) in
    let past : k < length (reverse samples) =
    omega (arith, length-take (length taps) (reverse samples)) in
    rw (
      get_or-take (length taps) (reverse samples) k d few,
      get_or_default (reverse samples) k d (pos 0) past,
    ) (narrow.small k few))) in
    let fits = narrow.fits in
    rw same (omega arith)

-- so is it with what is added to it
pub IsNarrowBack-added : (taps : List ℤ) (plus : ℤ) (samples : List ℤ)
    → IsNarrowBack taps plus samples
    → unsigned_abs (weighted (back samples) taps +ℤ plus) < 2 ^ 63
IsNarrowBack-added taps plus samples narrow =
    let both = abs_add (weighted (back samples) taps) plus in
    let small = IsNarrowBack-small taps plus samples narrow in
    omega (arith, both)

-- and with nothing added
pub IsNarrowBack-alone : (taps : List ℤ) (plus : ℤ) (samples : List ℤ)
    → IsNarrowBack taps plus samples → IsNarrowBack taps (pos 0) samples
IsNarrowBack-alone taps plus samples narrow = record {
  limit = narrow.limit;
  short = narrow.short;
  short_taps = narrow.short_taps;
  small = narrow.small;
  fits = let fits = narrow.fits in omega arith;
}

-- a shift does not lead away from zero
pub shifted_down-le : (z : ℤ) (shift : ℕ) → unsigned_abs (shifted_down z shift) ≤ unsigned_abs z
shifted_down-le (pos n) shift = shr_le n shift
shifted_down-le (negsuc n) shift = let le = shr_le n shift in omega arith

-- so what is shifted down is in range
pub ranged-shifted_down : (z : ℤ) (shift : ℕ) → unsigned_abs z < 2 ^ 63 → ranged (shifted_down z shift) ≡ Ok (shifted_down z shift)
ranged-shifted_down z shift small =
    let le = shifted_down-le z shift in
    let within : unsigned_abs (shifted_down z shift) ≤ 9223372036854775807 = omega arith in
    grind (arith, nat_tests)

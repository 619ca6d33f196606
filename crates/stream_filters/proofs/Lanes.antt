-- Vectors of signed lanes, which the operations take as their bits.
use Rattle.std.proofs.Common.{◌≡◌, ℕ, zero, suc, ◌^◌, ◌<◌, List, [], ◌∷◌, length, map, ℤ, pos, negsuc, ◌+◌, ◌+ℤ◌, ◌*ℤ◌, w32, w64, FitsSigned, to_z, of_z, refl, ◌∙◌, arith}
use Rattle.std.specs.Prelude.{unsigned_abs, replicate}
use Rattle.std.specs.Simd.Lanes.{zip2, Each1, Each2}
use lib.Signed.{shr_z}
use Rattle.std.proofs.Math.IntN.{*ℤ_comm}
use Rattle.std.proofs.lemmas.Int.{to_z-of_z, fits_signed_from_abs, unsigned_abs-mul}
use Rattle.std.proofs.lemmas.Nat.{mul-le}
use Rattle.std.proofs.lemmas.Simd.{Each1-weaker, Each2-splat}
use Rattle.stream_filters.specs.Sums.{shifted_down}
use Rattle.stream_filters.specs.Lanes.{IsShort, AddsUp}
use Rattle.stream_filters.proofs.Weighted.{abs_add, shifted_down-le}

-- a fact of the bits of each lane
pub Each1-bits : (P : ℕ → Type 0) (xs : List ℤ) → Each1 (λ x. P (of_z w64 x)) xs
    → Each1 P (map (of_z w64) xs)
Each1-bits P [] each = tt
Each1-bits P (x ∷ xs) each = (each.0, Each1-bits P xs each.1)

pub Each2-bits : (P : ℕ → ℕ → Type 0) (xs ys : List ℤ)
    → Each2 (λ x y. P (of_z w64 x) (of_z w64 y)) xs ys
    → Each2 P (map (of_z w64) xs) (map (of_z w64) ys)
Each2-bits P [] ys each = tt
Each2-bits P (x ∷ xs) [] each = tt
Each2-bits P (x ∷ xs) (y ∷ ys) each = (each.0, Each2-bits P xs ys each.1)

-- two operations by the lane that lead back to each lane
pub lanes-back : (g h : ℕ → ℕ) (xs : List ℤ) → Each1 (λ x. to_z w64 (g (h (of_z w64 x))) ≡ x) xs
    → map (to_z w64) (map g (map h (map (of_z w64) xs))) ≡ xs
lanes-back g h [] each = refl
lanes-back g h (x ∷ xs) each = cc (each.0, lanes-back g h xs each.1)

-- an operation on the bits of two lanes, that is this one on their numbers
pub lanes-zip2 : (g : ℕ → ℕ → ℕ) (f : ℤ → ℤ → ℤ) (xs ys : List ℤ)
    → Each2 (λ x y. to_z w64 (g (of_z w64 x) (of_z w64 y)) ≡ f x y) xs ys
    → map (to_z w64) (zip2 g (map (of_z w64) xs) (map (of_z w64) ys)) ≡ zip2 f xs ys
lanes-zip2 g f [] ys each = refl
lanes-zip2 g f (x ∷ xs) [] each = refl
lanes-zip2 g f (x ∷ xs) (y ∷ ys) each = cc (each.0, lanes-zip2 g f xs ys each.1)

pub Each1-bits-map : (P : ℕ → Type 0) (h : ℕ → ℕ) (xs : List ℤ)
    → Each1 (λ x. P (h (of_z w64 x))) xs → Each1 P (map h (map (of_z w64) xs))
Each1-bits-map P h [] each = tt
Each1-bits-map P h (x ∷ xs) each = (each.0, Each1-bits-map P h xs each.1)

-- ---- a number of 32 bits

abs-fits : (z : ℤ) → unsigned_abs z < 2 ^ 63 → to_z w64 (of_z w64 z) ≡ z
abs-fits z small = to_z-of_z w64 z (fits_signed_from_abs w64 z small)

pub short-64 : (x : ℤ) → IsShort x → to_z w64 (of_z w64 x) ≡ x
short-64 x is = let short = is.short in abs-fits x (omega arith)

pub short-fits : (x : ℤ) → IsShort x → FitsSigned w32 (to_z w64 (of_z w64 x))
short-fits x is = rw (short-64 x is) (fits_signed_from_abs w32 x is.short)

-- cut to 32 bits, it is the same
pub short-cut : (x : ℤ) → IsShort x → to_z w32 (of_z w32 (to_z w64 (of_z w64 x))) ≡ x
short-cut x is = rw (short-64 x is) (to_z-of_z w32 x (fits_signed_from_abs w32 x is.short))

pub short-fits-again : (x : ℤ) → IsShort x
    → FitsSigned w64 (to_z w32 (of_z w32 (to_z w64 (of_z w64 x))))
short-fits-again x is = let short = is.short in rw (short-cut x is) (fits_signed_from_abs w64 x
    (omega arith))

pub short-back : (x : ℤ) → IsShort x
    → to_z w64 (of_z w64 (to_z w32 (of_z w32 (to_z w64 (of_z w64 x))))) ≡ x
short-back x is = rw (short-cut x is) (short-64 x is)

-- ---- sums and products

pub product-short : (x tap : ℤ) → IsShort x → IsShort tap → unsigned_abs (x *ℤ tap) < 2 ^ 63
product-short x tap x_is tap_is =
    rw (unsigned_abs-mul x tap) (
    let le = mul-le (unsigned_abs x) (unsigned_abs tap) (2 ^ 31) (2 ^ 31)
    (let s = x_is.short in omega arith) (let s = tap_is.short in omega arith) in
    omega (arith, le))

pub product-fits : (x tap : ℤ) → IsShort x → IsShort tap
    → FitsSigned w64 (to_z w64 (of_z w64 x) *ℤ to_z w64 (of_z w64 tap))
product-fits x tap x_is tap_is =
    rw (short-64 x x_is, short-64 tap tap_is) (fits_signed_from_abs w64 _
    (product-short x tap x_is tap_is))

pub product-is : (x tap : ℤ) → IsShort x → IsShort tap
    → to_z w64 (of_z w64 (to_z w64 (of_z w64 x) *ℤ to_z w64 (of_z w64 tap))) ≡ tap *ℤ x
product-is x tap x_is tap_is =
    rw (short-64 x x_is, short-64 tap tap_is) (abs-fits _ (product-short x tap x_is tap_is)
    ∙ *ℤ_comm x tap)

pub sum-fits : (sum product : ℤ) → AddsUp sum product
    → FitsSigned w64 (to_z w64 (of_z w64 sum) +ℤ to_z w64 (of_z w64 product))
sum-fits sum product is =
    rw (abs-fits sum is.sum_fits, abs-fits product is.product_fits)
    (fits_signed_from_abs w64 _ is.fits)

pub sum-is : (sum product : ℤ) → AddsUp sum product
    → to_z w64 (of_z w64 (to_z w64 (of_z w64 sum) +ℤ to_z w64 (of_z w64 product))) ≡ sum +ℤ product
sum-is sum product is =
    rw (abs-fits sum is.sum_fits, abs-fits product is.product_fits) (abs-fits _ is.fits)

-- each of these with one number
pub Each2-with : (P : ℤ → ℤ → Type 0) (xs : List ℤ) (n : ℕ) (y : ℤ) → ((x : ℤ) → IsShort x → P x y)
    → Each1 IsShort xs → Each2 P xs (replicate n y)
Each2-with P xs n y each all = Each2-splat P xs n y (Each1-weaker IsShort (λ x. P x y) each xs all)

pub Each2-weaker : (P Q : ℤ → ℤ → Type 0) → ((x y : ℤ) → P x y → Q x y) → (xs ys : List ℤ)
    → Each2 P xs ys → Each2 Q xs ys
Each2-weaker P Q weaker [] ys each = tt
Each2-weaker P Q weaker (x ∷ xs) [] each = tt
Each2-weaker P Q weaker (x ∷ xs) (y ∷ ys) each = (
  weaker x y each.0,
  Each2-weaker P Q weaker xs ys
      each.1,
)

-- ---- numbers to bits and back

pub lanes-64 : (xs : List ℤ) → Each1 (λ z. unsigned_abs z < 2 ^ 63) xs
    → map (to_z w64) (map (of_z w64) xs) ≡ xs
lanes-64 [] each = refl
lanes-64 (x ∷ xs) each = cc (abs-fits x each.0, lanes-64 xs each.1)

pub short-lanes-64 : (xs : List ℤ) → Each1 IsShort xs → map (to_z w64) (map (of_z w64) xs) ≡ xs
short-lanes-64 [] each = refl
short-lanes-64 (x ∷ xs) each = cc (short-64 x each.0, short-lanes-64 xs each.1)

-- ---- lanes that are handed on

pub short-handed : (xs lanes : List ℤ) → xs ≡ lanes → Each1 IsShort lanes
    → Each1 IsShort (map (to_z w64) (map (of_z w64) xs))
short-handed xs lanes e short = rw (e, short-lanes-64 lanes short) short

pub products-handed : (xs lanes products : List ℤ) (n : ℕ) (tap given : ℤ) (result : List ℤ)
    → result ≡ zip2 (λ x tap. tap *ℤ x) (map (to_z w64) (map (of_z w64) xs)) (replicate n given)
    → given ≡ tap → xs ≡ lanes → Each1 IsShort lanes
    → zip2 (λ x tap. tap *ℤ x) lanes (replicate n tap) ≡ products → result ≡ products
products-handed xs lanes products n tap given result is tap_is e short products_are =
    rw (is, tap_is, e, short-lanes-64 lanes short) products_are

pub sums-handed : (bits : List ℕ) (sums ps products : List ℤ) → bits ≡ map (of_z w64) sums
    → ps ≡ products
    → Each1 (λ z. unsigned_abs z < 2 ^ 63) sums → Each1 (λ z. unsigned_abs z < 2 ^ 63) products
    → Each2 AddsUp sums products
    → Each2 AddsUp (map (to_z w64) bits) (map (to_z w64) (map (of_z w64) ps))
sums-handed bits sums ps products b e sums_fit products_fit adds =
    rw (b, e, lanes-64 sums sums_fit, lanes-64 products products_fit) adds

pub added-handed : (bits : List ℕ) (sums ps products more result : List ℤ)
    → result ≡ zip2 (λ sum product. sum +ℤ product) (map (to_z w64) bits) (map (to_z w64) (map
    (of_z w64) ps))
    → bits ≡ map (of_z w64) sums → ps ≡ products
    → Each1 (λ z. unsigned_abs z < 2 ^ 63) sums → Each1 (λ z. unsigned_abs z < 2 ^ 63) products
    → zip2 (λ sum product. sum +ℤ product) sums products ≡ more → result ≡ more
added-handed bits sums ps products more result is b e sums_fit products_fit more_is =
    rw (is, b, e, lanes-64 sums sums_fit, lanes-64 products products_fit) more_is

-- ---- shifts

-- an operation on the bits of each lane and of one number
pub lanes-with : (g : ℕ → ℕ → ℕ) (f : ℤ → ℤ) (xs : List ℤ) (n b : ℕ) → length xs ≡ n
    → Each1 (λ x. to_z w64 (g (of_z w64 x) b) ≡ f x) xs
    → map (to_z w64) (zip2 g (map (of_z w64) xs) (replicate n b)) ≡ map f xs
lanes-with g f [] n b len each = refl
lanes-with g f (x ∷ xs) zero b len each = absurd (omega arith)
lanes-with g f (x ∷ xs) (suc n) b len each = cc (each.0, lanes-with g f xs n b (omega arith) each.1)

shr_z-is : (z : ℤ) (shift : ℕ) → shr_z z (2 ^ shift) ≡ shifted_down z shift
shr_z-is (pos n) shift = refl
shr_z-is (negsuc n) shift = refl

-- what a shift to the right gives
pub shifted-bits : (shift : ℕ) (sum : ℤ) → unsigned_abs sum < 2 ^ 63
    → to_z w64 (of_z w64 (shr_z (to_z w64 (of_z w64 sum)) (2 ^ shift))) ≡ shifted_down sum shift
shifted-bits shift sum fits =
    let le = shifted_down-le sum shift in
    rw (abs-fits sum fits, shr_z-is sum shift) (abs-fits (shifted_down sum shift) (omega arith))

-- an addition of one number
pub added-fits : (plus sum : ℤ) → unsigned_abs sum + unsigned_abs plus < 2 ^ 63
    → FitsSigned w64 (to_z w64 (of_z w64 sum) +ℤ to_z w64 (of_z w64 plus))
added-fits plus sum fits =
    let both = abs_add sum plus in
    rw (abs-fits sum (omega arith), abs-fits plus (omega arith))
    (fits_signed_from_abs w64 _ (omega (arith, both)))

pub added-bits : (plus sum : ℤ) → unsigned_abs sum + unsigned_abs plus < 2 ^ 63
    → to_z w64 (of_z w64 (to_z w64 (of_z w64 sum) +ℤ to_z w64 (of_z w64 plus))) ≡ sum +ℤ plus
added-bits plus sum fits =
    let both = abs_add sum plus in
    rw (abs-fits sum (omega arith), abs-fits plus (omega arith))
    (abs-fits (sum +ℤ plus) (omega (arith, both)))

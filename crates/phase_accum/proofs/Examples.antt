-- Worked examples of the values of lists of sends and of the singles, computed by the checker.
use Rattle.std.proofs.Common.{◌≡◌, ◌≤◌, ℤ, pos, neg_ℤ, [], ◌∷◌, replicate, Some, None, refl, arith}
use Rattle.phase_accum.specs.declared.outcome.Outcome.TheVariants.{Value, Empty, TooBig}
use Rattle.phase_accum.specs.declared.single.Single.TheVariants.{Neg, Abs, Halve, Clamp}
use Rattle.phase_accum.specs.Operations.{IsPartOf}
use Rattle.phase_accum.specs.Sums.{sum_operation}
use Rattle.phase_accum.specs.Values.{sum_value, product_value, least_value, greatest_value, any_value, applied}

-- the greatest value
abbrev max : ℤ
max = pos 9223372036854775807

-- 2^62
abbrev quarter : ℤ
quarter = pos 4611686018427387904

-- ---- a sum is exact before its range is checked

sum-max_max_minus : sum_value (max ∷ max ∷ neg_ℤ max ∷ []) ≡ Value max
sum-max_max_minus = refl

sum-max_minus_max : sum_value (max ∷ neg_ℤ max ∷ max ∷ []) ≡ Value max
sum-max_minus_max = refl

sum-minus_max_max : sum_value (neg_ℤ max ∷ max ∷ max ∷ []) ≡ Value max
sum-minus_max_max = refl

sum-max_one : sum_value (max ∷ pos 1 ∷ []) ≡ TooBig
sum-max_one = refl

sum-minus_max_minus_one : sum_value (neg_ℤ max ∷ neg_ℤ (pos 1) ∷ []) ≡ TooBig
sum-minus_max_minus_one = refl

-- ---- so is a product

product-quarter_four_zero : product_value (quarter ∷ pos 4 ∷ pos 0 ∷ []) ≡ Value (pos 0)
product-quarter_four_zero = refl

product-quarter_zero_four : product_value (quarter ∷ pos 0 ∷ pos 4 ∷ []) ≡ Value (pos 0)
product-quarter_zero_four = refl

product-four_quarter_zero : product_value (pos 4 ∷ quarter ∷ pos 0 ∷ []) ≡ Value (pos 0)
product-four_quarter_zero = refl

product-four_zero_quarter : product_value (pos 4 ∷ pos 0 ∷ quarter ∷ []) ≡ Value (pos 0)
product-four_zero_quarter = refl

product-zero_quarter_four : product_value (pos 0 ∷ quarter ∷ pos 4 ∷ []) ≡ Value (pos 0)
product-zero_quarter_four = refl

product-zero_four_quarter : product_value (pos 0 ∷ pos 4 ∷ quarter ∷ []) ≡ Value (pos 0)
product-zero_four_quarter = refl

product-quarter_four : product_value (quarter ∷ pos 4 ∷ []) ≡ TooBig
product-quarter_four = refl

product-least : product_value (neg_ℤ (pos 7) ∷ pos 1317624576693539401 ∷ []) ≡ Value (neg_ℤ max)
product-least = refl

-- ---- no send

sum-none : sum_value [] ≡ Value (pos 0)
sum-none = refl

product-none : product_value [] ≡ Value (pos 1)
product-none = refl

least-none : least_value [] ≡ Empty
least-none = refl

greatest-none : greatest_value [] ≡ Empty
greatest-none = refl

any-none : any_value [] ≡ Empty
any-none = refl

-- ---- least, greatest and any

least-four_nine : least_value (pos 4 ∷ pos 9 ∷ []) ≡ Value (pos 4)
least-four_nine = refl

least-nine_four : least_value (pos 9 ∷ pos 4 ∷ []) ≡ Value (pos 4)
least-nine_four = refl

greatest-four_nine : greatest_value (pos 4 ∷ pos 9 ∷ []) ≡ Value (pos 9)
greatest-four_nine = refl

-- a number below 0 is less than one above it, whatever their magnitudes
least-minus_nine_four : least_value (neg_ℤ (pos 9) ∷ pos 4 ∷ []) ≡ Value (neg_ℤ (pos 9))
least-minus_nine_four = refl

greatest-minus_nine_four : greatest_value (neg_ℤ (pos 9) ∷ pos 4 ∷ []) ≡ Value (pos 4)
greatest-minus_nine_four = refl

any-nine_four : any_value (pos 9 ∷ pos 4 ∷ []) ≡ Value (pos 9)
any-nine_four = refl

-- the first send, though it is neither the greatest, nor the least, nor the last
any-five_nine_two_eight : any_value (pos 5 ∷ pos 9 ∷ pos 2 ∷ pos 8 ∷ []) ≡ Value (pos 5)
any-five_nine_two_eight = refl

any-two_nine : any_value (pos 2 ∷ pos 9 ∷ []) ≡ Value (pos 2)
any-two_nine = refl

-- ---- as many sends as a phase may have

sum-full : sum_value (replicate 65536 max) ≡ TooBig
sum-full = refl

sum-full_of_ones : sum_value (replicate 65536 (pos 1)) ≡ Value (pos 65536)
sum-full_of_ones = refl

-- one more is too many, whatever their part would be
is_part-one_too_many : (x : ℤ) → IsPartOf sum_operation x (replicate 65537 (pos 1)) → ⊥
is_part-one_too_many x h = let few : 65537 ≤ 65536 = h.few in absurd (omega arith)

-- ---- singles

halve-five : applied (Some Halve) (Value (pos 5)) ≡ Value (pos 2)
halve-five = refl

halve-minus_five : applied (Some Halve) (Value (neg_ℤ (pos 5))) ≡ Value (neg_ℤ (pos 3))
halve-minus_five = refl

abs-empty : applied (Some Abs) Empty ≡ Empty
abs-empty = refl

neg-too_big : applied (Some Neg) TooBig ≡ TooBig
neg-too_big = refl

abs-minus_five : applied (Some Abs) (Value (neg_ℤ (pos 5))) ≡ Value (pos 5)
abs-minus_five = refl

clamp-fifteen : applied (Some (Clamp (pos 0, pos 10))) (Value (pos 15)) ≡ Value (pos 10)
clamp-fifteen = refl

clamp-minus_one : applied (Some (Clamp (pos 0, pos 10))) (Value (neg_ℤ (pos 1))) ≡ Value (pos 0)
clamp-minus_one = refl

neg-thirteen : applied (Some Neg) (Value (pos 13)) ≡ Value (neg_ℤ (pos 13))
neg-thirteen = refl

none-thirteen : applied None (Value (pos 13)) ≡ Value (pos 13)
none-thirteen = refl

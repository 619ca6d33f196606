-- The operation of `Product`, whose part is the exact product where its magnitude is one of a
-- value, with its laws.
use Rattle.std.specs.Prelude.{◌≡◌, ◌⊎◌, ◌*◌, ◌<◌, ◌≤◌, cond, nat_le, if◌then◌else◌, ℤ, pos, negsuc, ◌*ℤ◌, unsigned_abs, List, [], ◌∷◌, refl}
use Rattle.std.proofs.Common.{arith, ap, sym, ◌∙◌, ⊎_elim, mul-le-mul}
use Rattle.std.proofs.lemmas.Int.{unsigned_abs-mul}
use Rattle.std.proofs.lemmas.Bool.{le-leb, lt-leb, cases_lt}
use Rattle.std.proofs.Math.IntN.{*ℤ_comm}
use Rattle.phase_accum.specs.declared.outcome.Outcome.TheVariants.{Value, TooBig}
use Rattle.phase_accum.specs.Sends.{value_max}
use Rattle.phase_accum.specs.Values.{ranged, product_of, product_value}
use Rattle.phase_accum.specs.Operations.{Operation, AccumulateLaws, Commutes, part}
use Rattle.phase_accum.specs.Sums.{ranged-in_range}
use Rattle.phase_accum.specs.Factors.{*ℤ-assoc, *ℤ-one_left, *ℤ-one_right, *ℤ-nothing_left}

-- what stands for every number that is too big: -2^63, which is too big itself
abbrev pub too_big : ℤ
too_big = negsuc value_max

-- the exact number, or what stands for a number that is too big
abbrev pub capped : ℤ → ℤ
capped z = if nat_le (unsigned_abs z) value_max then z else too_big

-- the product as an operation
abbrev pub product_operation : Operation ℤ
product_operation = record {
  unit = pos 1;
  of = λ v. v;
  join = λ x y. capped (x *ℤ y);
  finish = ranged;
  value = product_value;
}

-- ---- numbers that are capped

-- a product within the range is kept
pub capped-small : (z : ℤ) → unsigned_abs z ≤ value_max → capped z ≡ z
capped-small z small = ap (λ b. cond b z too_big) (le-leb (unsigned_abs z) value_max small)

-- a product beyond the range is noted as too big
pub capped-big : (z : ℤ) → value_max < unsigned_abs z → capped z ≡ too_big
capped-big z big = ap (λ b. cond b z too_big) (lt-leb (unsigned_abs z) value_max big)

-- a number but 0, times one that is too big, is too big
capped-times_big : (a c : ℤ) → 0 < unsigned_abs a → value_max < unsigned_abs c
    → capped (a *ℤ c) ≡ too_big
capped-times_big a c some big =
    let size : unsigned_abs (a *ℤ c) ≡ unsigned_abs a * unsigned_abs c = unsigned_abs-mul a c in
    let more : 1 * unsigned_abs c ≤ unsigned_abs a * unsigned_abs c =
    mul-le-mul some (omega arith) in
    capped-big (a *ℤ c) (omega arith)

-- a product is the same where its second factor was capped before: 0 times any number is 0, and
-- any other number times one that is too big is too big
pub capped-times : (a b : ℤ) → capped (a *ℤ capped b) ≡ capped (a *ℤ b)
capped-times a b =
    ⊎_elim
    (λ big. ap (λ c. capped (a *ℤ c)) (capped-big b big) ∙ both big (cases_lt 0 (unsigned_abs a)))
    (λ small. ap (λ c. capped (a *ℤ c)) (capped-small b small))
    (cases_lt value_max (unsigned_abs b))
  where
    both : value_max < unsigned_abs b → (0 < unsigned_abs a) ⊎ (unsigned_abs a ≤ 0)
        → capped (a *ℤ too_big) ≡ capped (a *ℤ b)
    both big = ⊎_elim
        (λ some. capped-times_big a too_big some (omega arith)
        ∙ sym (capped-times_big a b some big))
        (λ none. ap capped (*ℤ-nothing_left a too_big (omega arith)
        ∙ sym (*ℤ-nothing_left a b (omega arith))))

-- so it is where its first was
pub capped-times_left : (a b : ℤ) → capped (capped a *ℤ b) ≡ capped (a *ℤ b)
capped-times_left a b =
    ap capped (*ℤ_comm (capped a) b) ∙ capped-times b a ∙ ap capped (*ℤ_comm b a)

-- a number that is capped stays as it is
capped-capped : (z : ℤ) → capped (capped z) ≡ capped z
capped-capped z =
    ap capped (sym (*ℤ-one_left (capped z))) ∙ capped-times (pos 1) z ∙ ap capped (*ℤ-one_left z)

-- it has the value of the exact number
ranged-capped : (z : ℤ) → ranged (capped z) ≡ ranged z
ranged-capped z =
    ⊎_elim
    (λ big. ap ranged (capped-big z big)
    ∙ sym (ap (λ b. cond b (Value z) TooBig) (lt-leb (unsigned_abs z) value_max big)))
    (λ small. ap ranged (capped-small z small))
    (cases_lt value_max (unsigned_abs z))

-- ---- parts

-- the part of a list is its exact product, capped
pub part-product : (xs : List ℤ) → part product_operation xs ≡ capped (product_of xs)
part-product [] = refl
part-product (v ∷ vs) =
    ap (λ p. capped (v *ℤ p)) (part-product vs) ∙ capped-times v (product_of vs)

-- so a part is capped
capped-part : (x : ℤ) (xs : List ℤ) → x ≡ part product_operation xs → capped x ≡ x
capped-part x xs is =
    let product : x ≡ capped (product_of xs) = is ∙ part-product xs in
    ap capped product ∙ capped-capped (product_of xs) ∙ sym product

-- what the product owes as an accumulator
pub product_laws : AccumulateLaws product_operation
product_laws = record {
  left_unit = λ x xs p. ap capped (*ℤ-one_left x) ∙ capped-part x xs p.is;
  right_unit = λ x xs p. ap capped (*ℤ-one_right x) ∙ capped-part x xs p.is;
  of_is = λ v s. ap capped (*ℤ-one_right v) ∙ capped-small v s.0.small;
  assoc = λ x y z xs ys zs _ _ _ _. capped-times_left (x *ℤ y) z ∙ ap capped (*ℤ-assoc x y z)
      ∙ sym (capped-times x (y *ℤ z));
  finishes = λ x xs p. ap ranged (p.is ∙ part-product xs) ∙ ranged-capped (product_of xs);
  in_range = λ xs _. ranged-in_range (product_of xs);
  of_tells = λ v w _ _ e. e;
}

-- its order does not matter
pub product_commutes : Commutes product_operation
product_commutes = record { swaps = λ x y xs ys _ _ _. ap capped (*ℤ_comm x y) }

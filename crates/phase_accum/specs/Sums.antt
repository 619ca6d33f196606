-- The operation of `Sum`, whose part is the exact sum, with its laws.
use Rattle.std.specs.Prelude.{◌≡◌, ◌≤◌, Bool, true, false, nat_le, if◌then◌else◌, ℤ, pos, ◌+ℤ◌, unsigned_abs, List, [], ◌∷◌, refl}
use Rattle.std.proofs.Common.{arith, ap, ◌∙◌}
use Rattle.std.proofs.lemmas.Int.{ints}
use Rattle.std.proofs.lemmas.Bool.Decides.{nat_tests}
use Rattle.phase_accum.specs.declared.outcome.Outcome.TheVariants.{Value, TooBig}
use Rattle.phase_accum.specs.Sends.{value_max}
use Rattle.phase_accum.specs.Values.{ranged, IsInRange, sum_of, sum_value}
use Rattle.phase_accum.specs.Operations.{Operation, AccumulateLaws, Commutes, part}

-- the sum as an operation
abbrev pub sum_operation : Operation ℤ
sum_operation = record {
  unit = pos 0;
  of = λ v. v;
  join = λ x y. x +ℤ y;
  finish = ranged;
  value = sum_value;
}

-- the part of a list is its sum
pub part-sum : (xs : List ℤ) → part sum_operation xs ≡ sum_of xs
part-sum [] = refl
part-sum (v ∷ vs) = ap (λ t. v +ℤ t) (part-sum vs)

-- a number that is a value only where it is small is in range
when_small : (b : Bool) (z : ℤ) → (b ≡ true → unsigned_abs z ≤ value_max)
    → IsInRange (if b then Value z else TooBig)
when_small true z small = small refl
when_small false z small = tt

-- an exact number as a value is in range
pub ranged-in_range : (z : ℤ) → IsInRange (ranged z)
ranged-in_range z = when_small (nat_le (unsigned_abs z) value_max) z (λ e. grind (arith, nat_tests))

-- what the sum owes as an accumulator
pub sum_laws : AccumulateLaws sum_operation
sum_laws = record {
  left_unit = λ x xs _. omega (arith, ints);
  right_unit = λ x xs _. omega (arith, ints);
  of_is = λ v _. omega (arith, ints);
  assoc = λ x y z xs ys zs _ _ _ _. omega (arith, ints);
  finishes = λ x xs h. ap ranged (h.is ∙ part-sum xs);
  in_range = λ xs _. ranged-in_range (sum_of xs);
  of_tells = λ v w _ _ e. e;
}

-- its order does not matter
pub sum_commutes : Commutes sum_operation
sum_commutes = record { swaps = λ x y xs ys _ _ _. omega (arith, ints) }

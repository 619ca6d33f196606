-- The operation of `Greatest`, whose part is the greatest send, where there is one, with its laws.
use Rattle.std.specs.Prelude.{◌≡◌, ◌≤◌, ℤ, unsigned_abs, List, [], ◌∷◌, Option, Some, refl}
use Rattle.std.specs.Int.{int_max}
use Rattle.std.proofs.Common.{arith, ap}
use Rattle.std.proofs.lemmas.Int.{ints, clamps}
use Rattle.phase_accum.specs.Sends.{value_max, AreSends}
use Rattle.phase_accum.specs.Values.{IsInRange, greatest_of, greatest_value}
use Rattle.phase_accum.specs.Operations.{Operation, AccumulateLaws, Commutes, part}
use Rattle.phase_accum.specs.Chosen.{chosen, choosing, value_of_send, choosing-laws, choosing-commutes}

-- the greatest send as an operation
abbrev pub greatest_operation : Operation (Option ℤ)
greatest_operation = choosing int_max greatest_value

-- ---- the greater of two numbers

-- the greater of numbers may be grouped
pub int_max-assoc : (a b c : ℤ) → int_max (int_max a b) c ≡ int_max a (int_max b c)
int_max-assoc a b c = omega (arith, ints, clamps)

-- the greater of two, either first
pub int_max-swap : (a b : ℤ) → int_max a b ≡ int_max b a
int_max-swap a b = omega (arith, ints, clamps)

int_max-small : (a b : ℤ) → unsigned_abs a ≤ value_max → unsigned_abs b ≤ value_max
    → unsigned_abs (int_max a b) ≤ value_max
int_max-small a b p q = omega (arith, ints, clamps)

-- ---- parts

-- the part of a list is its greatest number
part-greatest : (v : ℤ) (vs : List ℤ) → part greatest_operation (v ∷ vs) ≡ Some (greatest_of v vs)
part-greatest v [] = refl
part-greatest v (w ∷ ws) = ap (chosen int_max (Some v)) (part-greatest w ws)

-- the greatest of sends is one that can be sent
pub greatest-value_of_send : (xs : List ℤ)
    → value_of_send (part greatest_operation xs) ≡ greatest_value xs
greatest-value_of_send [] = refl
greatest-value_of_send (v ∷ vs) = ap value_of_send (part-greatest v vs)

-- the greatest of numbers with a magnitude of a value has one
greatest_of-small : (v : ℤ) (vs : List ℤ) → AreSends (v ∷ vs)
    → unsigned_abs (greatest_of v vs) ≤ value_max
greatest_of-small v [] s = s.0.small
greatest_of-small v (w ∷ ws) s =
    int_max-small v (greatest_of w ws) s.0.small (greatest_of-small w ws s.1)

greatest_value-in_range : (xs : List ℤ) → AreSends xs → IsInRange (greatest_value xs)
greatest_value-in_range [] s = tt
greatest_value-in_range (v ∷ vs) s = greatest_of-small v vs s

-- what the greatest send owes as an accumulator
pub greatest_laws : AccumulateLaws greatest_operation
greatest_laws =
    choosing-laws int_max greatest_value int_max-assoc greatest-value_of_send
    greatest_value-in_range

-- its order does not matter
pub greatest_commutes : Commutes greatest_operation
greatest_commutes = choosing-commutes int_max greatest_value int_max-swap

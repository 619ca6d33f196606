-- The operation of `Least`, whose part is the least send, where there is one, with its laws.
use Rattle.std.specs.Prelude.{◌≡◌, ◌≤◌, ℤ, unsigned_abs, List, [], ◌∷◌, Option, Some, refl}
use Rattle.std.specs.Int.{int_min}
use Rattle.std.proofs.Common.{arith, ap}
use Rattle.std.proofs.lemmas.Int.{ints, clamps}
use Rattle.phase_accum.specs.Sends.{value_max, AreSends}
use Rattle.phase_accum.specs.Values.{IsInRange, least_of, least_value}
use Rattle.phase_accum.specs.Operations.{Operation, AccumulateLaws, Commutes, part}
use Rattle.phase_accum.specs.Chosen.{chosen, choosing, value_of_send, choosing-laws, choosing-commutes}

-- the least send as an operation
abbrev pub least_operation : Operation (Option ℤ)
least_operation = choosing int_min least_value

-- ---- the lesser of two numbers

-- the lesser of numbers may be grouped
pub int_min-assoc : (a b c : ℤ) → int_min (int_min a b) c ≡ int_min a (int_min b c)
int_min-assoc a b c = omega (arith, ints, clamps)

-- the lesser of two, either first
pub int_min-swap : (a b : ℤ) → int_min a b ≡ int_min b a
int_min-swap a b = omega (arith, ints, clamps)

int_min-small : (a b : ℤ) → unsigned_abs a ≤ value_max → unsigned_abs b ≤ value_max
    → unsigned_abs (int_min a b) ≤ value_max
int_min-small a b p q = omega (arith, ints, clamps)

-- ---- parts

-- the part of a list is its least number
part-least : (v : ℤ) (vs : List ℤ) → part least_operation (v ∷ vs) ≡ Some (least_of v vs)
part-least v [] = refl
part-least v (w ∷ ws) = ap (chosen int_min (Some v)) (part-least w ws)

-- the least of sends is one that can be sent
pub least-value_of_send : (xs : List ℤ)
    → value_of_send (part least_operation xs) ≡ least_value xs
least-value_of_send [] = refl
least-value_of_send (v ∷ vs) = ap value_of_send (part-least v vs)

-- the least of numbers with a magnitude of a value has one
least_of-small : (v : ℤ) (vs : List ℤ) → AreSends (v ∷ vs)
    → unsigned_abs (least_of v vs) ≤ value_max
least_of-small v [] s = s.0.small
least_of-small v (w ∷ ws) s =
    int_min-small v (least_of w ws) s.0.small (least_of-small w ws s.1)

least_value-in_range : (xs : List ℤ) → AreSends xs → IsInRange (least_value xs)
least_value-in_range [] s = tt
least_value-in_range (v ∷ vs) s = least_of-small v vs s

-- what the least send owes as an accumulator
pub least_laws : AccumulateLaws least_operation
least_laws =
    choosing-laws int_min least_value int_min-assoc least-value_of_send
    least_value-in_range

-- its order does not matter
pub least_commutes : Commutes least_operation
least_commutes = choosing-commutes int_min least_value int_min-swap

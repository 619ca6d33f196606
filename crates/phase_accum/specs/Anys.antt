-- The operation of `Any`, whose part is the first send, where there is one, with its laws.
use Rattle.std.specs.Prelude.{◌≡◌, ℤ, List, [], ◌∷◌, Option, Some, None, refl}
use Rattle.std.proofs.Common.{ap}
use Rattle.phase_accum.specs.Sends.{AreSends}
use Rattle.phase_accum.specs.Values.{IsInRange, any_value}
use Rattle.phase_accum.specs.Operations.{Operation, AccumulateLaws, part}
use Rattle.phase_accum.specs.Chosen.{chosen, choosing, value_of_send, choosing-laws}

-- the first of two numbers
abbrev pub earlier : ℤ → ℤ → ℤ
earlier first second = first

-- the first send as an operation
abbrev pub any_operation : Operation (Option ℤ)
any_operation = choosing earlier any_value

-- a first send stays, whatever comes behind it
chosen-earlier : (v : ℤ) (x : Option ℤ) → chosen earlier (Some v) x ≡ Some v
chosen-earlier v None = refl
chosen-earlier v (Some w) = refl

any-value_of_send : (xs : List ℤ) → value_of_send (part any_operation xs) ≡ any_value xs
any-value_of_send [] = refl
any-value_of_send (v ∷ vs) = ap value_of_send (chosen-earlier v (part any_operation vs))

any_value-in_range : (xs : List ℤ) → AreSends xs → IsInRange (any_value xs)
any_value-in_range [] s = tt
any_value-in_range (v ∷ vs) s = s.0.small

-- what the first send owes as an accumulator
pub any_laws : AccumulateLaws any_operation
any_laws = choosing-laws earlier any_value (λ a b c. refl) any-value_of_send any_value-in_range

-- The value of a list of sends for each of the five operations, and a single applied. All numbers
-- are exact integers, and the range is checked where `ranged` says so.
use Rattle.std.specs.Prelude.{◌/◌, ◌≤◌, nat_le, ℤ, pos, negsuc, ◌+ℤ◌, ◌*ℤ◌, neg_ℤ, unsigned_abs, List, [], ◌∷◌, if◌then◌else◌, Option, Some, None}
use Rattle.std.specs.Int.{int_min, int_max}
pub use Rattle.phase_accum.specs.Sends.{value_max, IsSend, AreSends}
use Rattle.phase_base.specs.declared.operation.Op.{Op}
use Rattle.phase_base.specs.declared.operation.Op.TheVariants.{Sum, Product, Least, Greatest, Any}
use Rattle.phase_accum.specs.declared.outcome.Outcome.{Outcome}
use Rattle.phase_accum.specs.declared.outcome.Outcome.TheVariants.{Value, Empty, TooBig}
use Rattle.phase_accum.specs.declared.single.Single.{Single}
use Rattle.phase_accum.specs.declared.single.Single.TheVariants.{Neg, Abs, Halve, Clamp}

-- ---- the value of a list of sends

-- the exact number as a value, where its magnitude is one
abbrev pub ranged : ℤ → Outcome
ranged z = if nat_le (unsigned_abs z) value_max then Value z else TooBig

-- the exact sum of the numbers, 0 for none
abbrev pub sum_of : List ℤ → ℤ
sum_of [] = pos 0
sum_of (v ∷ vs) = v +ℤ sum_of vs

-- the exact product of the numbers, 1 for none
abbrev pub product_of : List ℤ → ℤ
product_of [] = pos 1
product_of (v ∷ vs) = v *ℤ product_of vs

-- the least of a number and more numbers
abbrev pub least_of : ℤ → List ℤ → ℤ
least_of v [] = v
least_of v (w ∷ ws) = int_min v (least_of w ws)

-- the greatest of a number and more numbers
abbrev pub greatest_of : ℤ → List ℤ → ℤ
greatest_of v [] = v
greatest_of v (w ∷ ws) = int_max v (greatest_of w ws)

-- the value under sum: the exact sum, then its range is checked
abbrev pub sum_value : List ℤ → Outcome
sum_value vs = ranged (sum_of vs)

-- the value under product: the exact product, then its range is checked
abbrev pub product_value : List ℤ → Outcome
product_value vs = ranged (product_of vs)

-- the value under least
abbrev pub least_value : List ℤ → Outcome
least_value [] = Empty
least_value (v ∷ vs) = Value (least_of v vs)

-- the value under greatest
abbrev pub greatest_value : List ℤ → Outcome
greatest_value [] = Empty
greatest_value (v ∷ vs) = Value (greatest_of v vs)

-- the value under any: the first send
abbrev pub any_value : List ℤ → Outcome
any_value [] = Empty
any_value (v ∷ vs) = Value v

-- the value by an operation
abbrev pub value_by : Op → List ℤ → Outcome
value_by Sum = sum_value
value_by Product = product_value
value_by Least = least_value
value_by Greatest = greatest_value
value_by Any = any_value

-- a value has a magnitude of one
abbrev pub IsInRange : Outcome → Type 0
IsInRange (Value v) = unsigned_abs v ≤ value_max
IsInRange Empty = Unit {0}
IsInRange TooBig = Unit {0}

-- ---- singles

-- half the number, rounded down; `negsuc n` is -(n + 1)
abbrev pub half_of : ℤ → ℤ
half_of (pos n) = pos (n / 2)
half_of (negsuc n) = negsuc (n / 2)

-- the nearest number of the range to this one
abbrev pub clamped : ℤ × ℤ → ℤ → ℤ
clamped range v = int_max range.0 (int_min v range.1)

-- a single's number for a number
abbrev pub single_of : Single → ℤ → ℤ
single_of Neg v = neg_ℤ v
single_of Abs v = pos (unsigned_abs v)
single_of Halve v = half_of v
single_of (Clamp range) v = clamped range v

-- a single, or none, applied to the value of a phase
abbrev pub applied : Option Single → Outcome → Outcome
applied None outcome = outcome
applied (Some single) (Value v) = Value (single_of single v)
applied (Some single) Empty = Empty
applied (Some single) TooBig = TooBig

-- Which numbers can be sent.
use Rattle.std.specs.Prelude.{ℕ, ◌≤◌, ℤ, unsigned_abs, List, [], ◌∷◌}

-- the greatest magnitude of a value, 2^63 - 1
abbrev pub value_max : ℕ
value_max = 9223372036854775807

-- the number can be sent: its magnitude is one of a value
pub record IsSend (v : ℤ) : Type 0 where
  pub small : unsigned_abs v ≤ value_max

-- each number of the list can be sent
abbrev pub AreSends : List ℤ → Type 0
AreSends [] = Unit {0}
AreSends (v ∷ vs) = IsSend v × AreSends vs

-- Parts of a list of values, each of which can be sent.
use Rattle.std.specs.Prelude.{◌≡◌, ◌-◌, ℕ, ℤ, List, take, drop}
use Rattle.phase_accum.specs.Sends.{AreSends}

-- these are the values of the whole from one place up to another, and all can be sent
pub record ArePart (whole : List ℤ) (from to : ℕ) (values : List ℤ) : Type 0 where
  pub values_are : values ≡ take (to - from) (drop from whole)
  pub sends : AreSends values

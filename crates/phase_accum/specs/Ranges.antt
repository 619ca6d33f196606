-- The range of a clamp, as its low end and its high end.
use Rattle.std.specs.Prelude.{ℤ, ◌≤ℤ◌, ◌≤◌, unsigned_abs}
use Rattle.phase_accum.specs.Sends.{value_max}

-- the low end is not above the high end, and the magnitude of each is one of a value
pub record IsRange (range : ℤ × ℤ) : Type 0 where
  pub ordered : range.0 ≤ℤ range.1
  pub low_small : unsigned_abs range.0 ≤ value_max
  pub high_small : unsigned_abs range.1 ≤ value_max

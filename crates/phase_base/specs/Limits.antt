-- The limits that a phaser is made with, both in phases.
use Rattle.std.specs.Prelude.{ℕ, ◌≤◌}
use Rattle.phase_base.specs.declared.limits.TheConstants.{BOUND_MAX, PHASES_MAX}

-- the bound, and the greatest number of phases
pub record Limits : Type 0 where
  pub bound : ℕ
  pub phases_max : ℕ

-- these two as limits
abbrev pub limits : ℕ → ℕ → Limits
limits bound phases_max = record { bound = bound; phases_max = phases_max }

-- the number can be a bound
abbrev pub IsBound : ℕ → Type 0
IsBound bound = (1 ≤ bound) × (bound ≤ BOUND_MAX)

-- the limits are within theirs
pub record AreLimits (limits : Limits) : Type 0 where
  pub bound_least : 1 ≤ limits.bound
  pub bound_most : limits.bound ≤ BOUND_MAX
  pub phases_least : 1 ≤ limits.phases_max
  pub phases_most : limits.phases_max ≤ PHASES_MAX

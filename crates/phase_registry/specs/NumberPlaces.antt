-- Where a number stands among the members, or would stand.
use Rattle.std.specs.Prelude.{◌≡◌, ℕ, ◌<◌, ◌≤◌, length}
use Rattle.phase_base.specs.Members.{Members}
use Rattle.phase_registry.specs.Rosters.{number_at}

-- the member at place i has the number
pub record IsAt (members : Members) (number i : ℕ) : Type 0 where
  pub in_range : i < length members
  pub has_number : number_at members i ≡ number

-- the number would stand at place i
pub record IsGapFor (members : Members) (number i : ℕ) : Type 0 where
  pub smaller_before : (j : ℕ) → j < i → number_at members j < number
  pub greater_after : (j : ℕ) → i ≤ j → j < length members → number < number_at members j

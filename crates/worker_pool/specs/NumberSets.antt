-- Sets of numbers below 64.
use Rattle.std.specs.Prelude.{◌≡◌, ℕ, ◌+◌, ◌-◌, ◌%◌, ◌<◌, ◌≤◌, Bool, true, false, ◌==◌}
use Rattle.std.specs.Int.{bit_at}
use Rattle.worker_pool.specs.declared.number_set.NumberSet.{NumberSet}

-- the set has the number
abbrev pub has : NumberSet → ℕ → Bool
has set n = bit_at set.bits n == 1

-- the set has no number
abbrev pub IsEmpty : NumberSet → Type 0
IsEmpty set = (n : ℕ) → n < 64 → has set n ≡ false

-- the two have a number in common
pub record Meet (set other : NumberSet) : Type 0 where
  pub number : ℕ
  pub below : number < 64
  pub first : has set number ≡ true
  pub second : has other number ≡ true

-- how many numbers after `from` a number comes, in the order from, .., 63, 0, ..
abbrev pub steps_from : ℕ → ℕ → ℕ
steps_from from n = (n + (64 - from % 64)) % 64

-- the number is in the set, and comes first from `from` on
pub record IsFirstFrom (set : NumberSet) (from n : ℕ) : Type 0 where
  pub below : n < 64
  pub is_in : has set n ≡ true
  pub first : (m : ℕ) → m < 64 → has set m ≡ true → steps_from from n ≤ steps_from from m

-- the bits of one set are a smaller number: so a loop that takes numbers out of a set ends
abbrev pub IsLess : NumberSet → NumberSet → Type 0
IsLess set other = set.bits < other.bits

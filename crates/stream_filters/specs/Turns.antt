-- The turns of a splitter or a joiner.
use Rattle.std.specs.Prelude.{◌≡◌, ℕ, ◌%◌}

-- how many places there are, and whose turn is next
pub record Turns : Type 0 where
  pub count : ℕ
  pub next : ℕ

-- the answer to the call that comes after n calls, of `count` places in a ring
abbrev pub turn_after : ℕ → ℕ → ℕ
turn_after count n = n % count

-- there were n calls so far
abbrev pub HasTurned : Turns → ℕ → Type 0
HasTurned turns n = turns.next ≡ turn_after turns.count n

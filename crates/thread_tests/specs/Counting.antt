-- The rule of a number that is the sum of what its lock's seats counted.
-- The first seat begins with all parts of the right to know the sum, as many as the lock's name
-- says. A split shares them out, and a join puts them together.
use Rattle.std.specs.Prelude.{◌≡◌, ◌≢◌, ℕ, ◌+◌, ◌-◌, ◌/◌, ◌%◌, ◌^◌, Option, Some, None, List}
use Rattle.std.specs.Prelude.{[], ◌∷◌}
use mathlib.Core.Option.{some}
use lib.ListN.{get_elem?}
use Rattle.thread_tests.specs.declared.counting.Tally.{Tally}

-- a view with these parts and this count, which took this sum or none
abbrev pub tally : ℕ → ℕ → Option ℕ → Tally
tally parts count took = record { parts = parts; count = count; took = took }

-- f of each view, added up
abbrev pub total : (Tally → ℕ) → List Tally → ℕ
total f [] = 0
total f (v ∷ vs) = f v + total f vs

-- the sum of the counts
abbrev pub counted : List Tally → ℕ
counted views = total (λ v. v.count) views

-- the value at home is the sum of the counts; while it is out, one seat took that sum
abbrev pub IsSumOf : Option ℕ → List Tally → Type 0
IsSumOf (Some x) views =
    (x ≡ counted views % 2 ^ 64)
    × ((j : ℕ) (v : Tally) → get_elem? views j ≡ some v → v.took ≡ None)
IsSumOf None views =
    (holder : ℕ) × (w : Tally)
    × (get_elem? views holder ≡ some w) × (w.took ≡ Some (counted views % 2 ^ 64))
    × ((j : ℕ) (v : Tally) → get_elem? views j ≡ some v → j ≢ holder → v.took ≡ None)

-- no part is lost, and a seat with no part counted nothing
pub record IsCounted (parts : ℕ) (home : Option ℕ) (views : List Tally) : Type 0 where
  pub all : total (λ v. v.parts) views ≡ parts
  pub idle : (j : ℕ) (v : Tally) → get_elem? views j ≡ some v → v.parts ≡ 0 → v ≡ tally 0 0 None
  pub sum : IsSumOf home views

-- the seat took x, and where it has all parts, x is what it counted
abbrev pub Grabs : ℕ → Tally → ℕ → Tally → Type 0
Grabs parts v x w = (w ≡ tally v.parts v.count (Some x)) × (v.parts ≡ parts → x ≡ v.count % 2 ^ 64)

-- the first half of the parts, with all that was counted
abbrev pub first_half : Tally → Tally
first_half v = tally (v.parts - v.parts / 2) v.count v.took

-- the other half of the parts, with nothing counted
abbrev pub second_half : Tally → Tally
second_half v = tally (v.parts / 2) 0 None

-- the parts and the counts of both
abbrev pub both : Tally → Tally → Tally
both v w = tally (v.parts + w.parts) (v.count + w.count) v.took

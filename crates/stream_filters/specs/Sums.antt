-- Weighted sums, as functions of whole lists.
use Rattle.std.specs.Prelude.{ℕ, suc, ◌/◌, ◌^◌, ◌+◌, List, [], ◌∷◌, reverse, get_or, ℤ, pos, negsuc, ◌+ℤ◌, ◌*ℤ◌, unsigned_abs}
use Rattle.std.specs.List.{sum_by}
use Rattle.stream_filters.specs.declared.form.Form.{Form}

-- z divided by 2 ^ shift, rounded down
abbrev pub shifted_down : ℤ → ℕ → ℤ
shifted_down (pos n) shift = pos (n / 2 ^ shift)
shifted_down (negsuc n) shift = negsuc (n / 2 ^ shift)

-- the sample j places before the last of these, 0 before the first
abbrev pub back : List ℤ → ℕ → ℤ
back samples j = get_or (reverse samples) j (pos 0)

-- the sum, over the taps, of tap number j times what stands at j
abbrev pub weighted : (ℕ → ℤ) → List ℤ → ℤ
weighted at [] = pos 0
weighted at (tap ∷ taps) = (tap *ℤ at 0) +ℤ weighted (λ j. at (suc j)) taps

-- what stands at place j of a window, 0 past its end
abbrev pub at_place : List ℤ → ℕ → ℤ
at_place window j = get_or window j (pos 0)

-- the sum of the taps' magnitudes
abbrev pub weight : List ℤ → ℕ
weight taps = sum_by unsigned_abs taps

-- the sum of a filter whose window shows this: the first tap weighs what stands `delay` places
-- back, and so much is added to each sum
abbrev pub summed : (ℕ → ℤ) → List ℤ → Form → ℤ
summed at taps form = weighted (λ j. at (form.delay + j)) taps +ℤ form.plus

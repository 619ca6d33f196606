-- What many windows at once need of their samples and sums.
use Rattle.std.specs.Prelude.{ℕ, ◌+◌, ◌-◌, ◌^◌, ◌<◌, List, length, ℤ, pos, ◌+ℤ◌, unsigned_abs, get_or}
use Rattle.stream_filters.specs.Sums.{shifted_down, weighted}
use Rattle.stream_filters.specs.declared.form.Form.{Form}

-- the sample j places before sample number n of these
abbrev pub before : List ℤ → ℕ → ℕ → ℤ
before samples n j = get_or samples (n - j) (pos 0)

-- the sum at the sample that stands k samples after the first one whose window these show
abbrev pub sum_shown : List ℤ → Form → List ℤ → ℕ → ℤ
sum_shown taps form samples k =
    weighted (before samples (length taps - 1 + k)) taps +ℤ form.plus

-- the output at that sample
abbrev pub output_shown : List ℤ → Form → List ℤ → ℕ → ℤ
output_shown taps form samples k = shifted_down (sum_shown taps form samples k) form.shift

-- 32 bits hold it
pub record IsShort (x : ℤ) : Type 0 where
  pub short : unsigned_abs x < 2 ^ 31

-- 64 bits hold a sum, a product and what they come to
pub record AddsUp (sum product : ℤ) : Type 0 where
  pub sum_fits : unsigned_abs sum < 2 ^ 63
  pub product_fits : unsigned_abs product < 2 ^ 63
  pub fits : unsigned_abs (sum +ℤ product) < 2 ^ 63

-- What a filter answers that weighs its last samples alone, as a function of the whole list of its
-- samples.
use Rattle.std.specs.Prelude.{◌≡◌, ℕ, suc, ◌<◌, ◌≤◌, ◌+◌, List, [], ◌∷◌, ◌++◌, length, map, take, ℤ, unsigned_abs}
use Rattle.std.specs.List.{All, range_with_len}
use Rattle.stream_filters.specs.Sums.{at_place, back, shifted_down, summed}
use Rattle.stream_filters.specs.declared.fir.TheConstants.{DELAY_MAX, PLUS_MAX, SHIFT_MAX, TAP_MAX, TAPS_MAX}
use Rattle.stream_filters.specs.declared.form.Form.{Form}

-- the number at the last of these samples
abbrev pub weighed_after : List ℤ → Form → List ℤ → ℤ
weighed_after taps form samples = shifted_down (summed (back samples) taps form) form.shift

-- the number at sample number n of these
abbrev pub weighed_at : List ℤ → Form → List ℤ → ℕ → ℤ
weighed_at taps form samples n = weighed_after taps form (take (suc n) samples)

-- the numbers at each of these samples in turn
abbrev pub weighed : List ℤ → Form → List ℤ → List ℤ
weighed taps form samples = map (weighed_at taps form samples) (range_with_len 0 (length samples))

-- the numbers at each of these samples, behind those that were taken
abbrev pub weighed_behind : List ℤ → Form → List ℤ → List ℤ → List ℤ
weighed_behind taps form taken [] = []
weighed_behind taps form taken (x ∷ xs) =
    weighed_after taps form (taken ++ x ∷ []) ∷ weighed_behind taps form (taken ++ x ∷ []) xs

-- how many of the last samples the taps look back to
abbrev pub span : List ℤ → Form → ℕ
span taps form = form.delay + length taps

-- taps and a form, and the samples that the window holds, the newest first
pub record WeigherState : Type 0 where
  pub taps : List ℤ
  pub form : Form
  pub window : List ℤ

-- with the sample x in front of the window, which holds as many samples as the taps look back to
abbrev pub after_weighed : WeigherState → ℤ → WeigherState
after_weighed weigher x =
    record weigher { window = take (span weigher.taps weigher.form) (x ∷ weigher.window) }

-- the window shows the last of these samples, and 0 before the first
pub record ShowsSamples (weigher : WeigherState) (samples : List ℤ) : Type 0 where
  pub shows : (j : ℕ) → j < span weigher.taps weigher.form
      → at_place weigher.window j ≡ back samples j

-- taps for samples, and what a form adds, shifts and delays, within their limits
pub record AreAhead (taps : List ℤ) (form : Form) : Type 0 where
  pub some : 1 ≤ length taps
  pub few : length taps ≤ TAPS_MAX
  pub small : All (λ tap. unsigned_abs tap ≤ TAP_MAX) taps
  pub shift_small : form.shift ≤ SHIFT_MAX
  pub plus_small : unsigned_abs form.plus ≤ PLUS_MAX
  pub delay_small : form.delay ≤ DELAY_MAX

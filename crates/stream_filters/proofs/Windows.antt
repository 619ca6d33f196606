-- Windows that stand for lists of samples.
use Rattle.std.proofs.Common.{◌≡◌, ℕ, zero, suc, ◌+◌, ◌*◌, ◌^◌, ◌<◌, ◌≤◌, List, [], ◌∷◌, ◌++◌, length, ℤ, pos, ◌+ℤ◌, sym, ap, ◌∙◌, arith}
use Rattle.std.specs.Prelude.{unsigned_abs}
use Rattle.std.proofs.lemmas.List.{get_or-take}
use Rattle.std.proofs.lemmas.List.Sums.{sum_by-le}
use Rattle.stream_filters.specs.Sums.{summed, at_place, back, weight, shifted_down}
use Rattle.stream_filters.specs.Weighing.{span, weighed_after, AreAhead, ShowsSamples, WeigherState, after_weighed}
use Rattle.stream_filters.specs.WeigherFields.{answer_at}
use Rattle.stream_filters.specs.declared.form.Form.{Form}
use Rattle.stream_filters.specs.Range.{ranged}
use Rattle.stream_filters.proofs.Outputs.{back-zero, back-suc}
use Rattle.stream_filters.proofs.Weighted.{weighted-same}

-- taps of a filter are light enough for 128 bits
pub weight-small : (taps : List ℤ) (form : Form) → AreAhead taps form → weight taps ≤ 2 ^ 41
weight-small taps form are =
    let all : weight taps ≤ length taps * 2147483647 = sum_by-le unsigned_abs 2147483647 taps are.small in
    let few : length taps ≤ 1024 = are.few in
    omega arith

-- a window that stands for the samples gives their sum
pub summed-Shows : (fir : WeigherState) (samples : List ℤ) → ShowsSamples fir samples
    → summed (at_place fir.window) fir.taps fir.form ≡ summed (back samples) fir.taps fir.form
summed-Shows fir samples stands =
    ap (λ z. z +ℤ fir.form.plus) (weighted-same _ _ fir.taps (λ j lt.
    stands.shows (fir.form.delay + j) (omega arith)))

-- a new sample in front
pub shows-push : (n : ℕ) (window samples : List ℤ) (x : ℤ) → ((j : ℕ) → j < n → at_place window j ≡ back samples j)
    → (j : ℕ) → j < n → at_place (x ∷ window) j ≡ back (samples ++ x ∷ []) j
shows-push n window samples x shows zero lt = sym (back-zero samples x)
shows-push n window samples x shows (suc j) lt =
    let lt_before : j < n = omega arith in
    shows j lt_before ∙ sym (back-suc samples x j)

pub Shows-push : (fir : WeigherState) (samples : List ℤ) (x : ℤ) → ShowsSamples fir samples
    → ShowsSamples (after_weighed fir x) (samples ++ x ∷ [])
Shows-push fir samples x stands = record {
  shows = λ j lt. get_or-take (span fir.taps fir.form) (x ∷ fir.window) j (pos 0) lt
      ∙ shows-push (span fir.taps fir.form) fir.window samples x stands.shows j lt;
}

-- what the window then gives is the filter's output
pub answer_at-push : (fir : WeigherState) (samples : List ℤ) (x : ℤ) → ShowsSamples fir samples
    → answer_at fir.taps fir.form (after_weighed fir x).window
    ≡ ranged (weighed_after fir.taps fir.form (samples ++ x ∷ []))
answer_at-push fir samples x stands =
    ap (λ z. ranged (shifted_down z fir.form.shift))
    (summed-Shows _ _ (Shows-push fir samples x stands))

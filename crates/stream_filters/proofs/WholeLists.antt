-- A filter over a whole list of samples.
use Rattle.std.proofs.Common.{◌≡◌, ℕ, ◌+◌, ◌-◌, ◌^◌, ◌<◌, ◌≤◌, ◌⊎◌, inl, inr, List, ◌++◌, length, map, take, drop, get_or, ℤ, pos, ◌+ℤ◌, Ok, Err, sym, ap, subst, ◌∙◌, zero-add, arith}
use Rattle.std.specs.Prelude.{unsigned_abs, Result, OnOk, is_ok, if◌then◌else◌}
use Rattle.std.specs.List.{All, range_with_len}
use Rattle.std.proofs.lemmas.Bool.{cases_lt}
use Rattle.std.proofs.lemmas.List.{get_or_default, get_or-take, length-take-le}
use Rattle.std.proofs.lemmas.List.Elements.{All-weaker}
use Rattle.std.proofs.lemmas.List.FromFn.{get_or-map-range_with_len}
use Rattle.std.proofs.lemmas.Simd.{length-chunk, get_or-chunk}
use Rattle.stream_filters.specs.Sums.{back, summed, shifted_down}
use Rattle.stream_filters.specs.Filter.{outputs}
use Rattle.stream_filters.specs.Weighing.{AreAhead, span, weighed}
use Rattle.stream_filters.specs.declared.form.Form.{Form}
use Rattle.stream_filters.specs.WeigherFields.{AreSmall, AreSmallAt, IsNarrow}
use Rattle.stream_filters.specs.FilterFields.{MadeSoFar, PutSoFar}
use Rattle.stream_filters.specs.Lanes.{before, output_shown, sum_shown}
use Rattle.stream_filters.specs.Range.{ranged}
use Rattle.stream_filters.proofs.Made.{MadeSoFar-append}
use Rattle.stream_filters.proofs.ManySums.{before-added-small}
use Rattle.stream_filters.proofs.Outputs.{back_is}
use Rattle.stream_filters.proofs.PlainLists.{weighed-entry, weighed-length}
use Rattle.stream_filters.proofs.Weighted.{weighted-same, ranged-shifted_down}

-- ---- one block

-- what the windows of 16 weighed from number `at` on show
abbrev pub shown : List ℤ → List ℤ → ℕ → List ℤ
shown taps samples at = take (at + 16 - (at + 1 - length taps)) (drop
    (at + 1 - length taps) samples)

pub length-shown : (taps samples : List ℤ) (at : ℕ) → length taps ≤ at + 1
    → at + 16 ≤ length samples
    → length (shown taps samples at) ≡ length taps + 15
length-shown taps samples at long within =
    let len = length-chunk (at + 1 - length taps) (at + 16 - (at + 1 - length taps)) samples
    (omega arith) in
    omega arith

-- a sample that they show
shown-entry : (taps samples : List ℤ) (at k : ℕ) (d : ℤ) → length taps ≤ at + 1
    → at + 16 ≤ length samples
    → k < length taps + 15
    → get_or (shown taps samples at) k d ≡ get_or samples (at + 1 - length taps + k) (pos 0)
shown-entry taps samples at k d long within lt =
    get_or-chunk (at + 1 - length taps) (at + 16 - (at + 1 - length taps)) samples k d (omega arith)
    ∙ get_or_default samples (at + 1 - length taps + k) d (pos 0) (omega arith)

pub IsNarrow-shown : (taps samples : List ℤ) (form : Form) (at : ℕ) → AreAhead taps form
    → AreSmallAt taps form.plus samples at
    → length taps ≤ at + 1 → at + 16 ≤ length samples
    → IsNarrow taps form.plus (shown taps samples at)
IsNarrow-shown taps samples form at are small long within = record {
  limit = small.limit;
  short = small.short;
  short_taps = All-weaker (λ tap. unsigned_abs tap ≤ 2147483647) (λ tap. unsigned_abs tap < 2 ^ 31)
      (λ tap le. omega arith) taps are.small;
  small = λ k d lt.
      let below : k < length taps + 15 = omega (arith, length-shown taps samples at long within) in
      rw (shown-entry taps samples at k d long within below)
      (small.small (at + 1 - length taps + k) (omega arith) (omega arith));
  fits = small.fits;
}

-- what stands j places before sample number at + k
shown-before : (taps samples : List ℤ) (at k j : ℕ) → length taps ≤ at + 1
    → at + 16 ≤ length samples
    → k < 16 → j < length taps
    → before (shown taps samples at) (length taps - 1 + k) j ≡ get_or samples (at + k - j) (pos 0)
shown-before taps samples at k j long within few lt =
    let place : at + 1 - length taps + (length taps - 1 + k - j) ≡ at + k - j = omega arith in
    shown-entry taps samples at (length taps - 1 + k - j) (pos 0) long within (omega arith)
    ∙ ap (λ i. get_or samples i (pos 0)) place

-- what stands `delay` and j places before the last of the first n + 1 samples
back-entry : (samples : List ℤ) (n delay j : ℕ) → n < length samples → delay + j ≤ n
    → back (take (n + 1) samples) (delay + j) ≡ get_or samples (n - delay - j) (pos 0)
back-entry samples n delay j within le =
    let len : length (take (n + 1) samples) ≡ n + 1 = length-take-le
    (n + 1) samples (omega arith) in
    let place : n - (delay + j) ≡ n - delay - j = omega arith in
    back_is (take (n + 1) samples) n (delay + j) len le
    ∙ (get_or-take (n + 1) samples (n - (delay + j)) (pos 0) (omega arith)
    ∙ ap (λ i. get_or samples i (pos 0)) place)

-- one of the sums of a block
pub block-sum : (taps samples : List ℤ) (form : Form) (at k : ℕ) → 1 ≤ length taps
    → span taps form ≤ at + 1 → at + 16 ≤ length samples → k < 16
    → sum_shown taps form (shown taps samples (at - form.delay)) k
    ≡ summed (back (take (at + k + 1) samples)) taps form
block-sum taps samples form at k some long within lt =
    let first = at - form.delay in
    let long_first : length taps ≤ first + 1 = omega arith in
    let within_first : first + 16 ≤ length samples = omega arith in
    ap (λ z. z +ℤ form.plus) (weighted-same _ _ taps (λ j below.
    let place : first + k - j ≡ at + k - form.delay - j = omega arith in
    shown-before taps samples first k j long_first within_first lt below
    ∙ (ap (λ i. get_or samples i (pos 0)) place
    ∙ sym (back-entry samples (at + k) form.delay j (omega arith) (omega arith)))))

-- one of the weighed of a block
pub block-output : (taps samples : List ℤ) (form : Form) (at k : ℕ) → AreAhead taps form
    → AreSmallAt taps form.plus samples (at - form.delay) → span taps form ≤ at + 1
    → at + 16 ≤ length samples → k < 16
    → ranged (get_or (weighed taps form samples) (at + k) (pos 0))
    ≡ Ok (output_shown taps form (shown taps samples (at - form.delay)) k)
block-output taps samples form at k are small long within lt =
    let first = at - form.delay in
    let some = are.some in
    let long_first : length taps ≤ first + 1 = omega arith in
    let within_first : first + 16 ≤ length samples = omega arith in
    let narrow = IsNarrow-shown taps samples form first are small long_first within_first in
    ap ranged (weighed-entry taps form samples (at + k) (pos 0) (omega arith))
    ∙ (ap (λ z. ranged (shifted_down z form.shift))
    (sym (block-sum taps samples form at k some long within lt))
    ∙ ranged-shifted_down (sum_shown taps form (shown taps samples first) k) form.shift
    (before-added-small taps form.plus (shown taps samples first) narrow (length taps - 1 + k)))

-- the weighed of n samples
pub outputs_shown-entry : (taps samples : List ℤ) (form : Form) (k n : ℕ) → k < n
    → get_or (map (output_shown taps form samples) (range_with_len 0 n)) k (pos 0)
    ≡ output_shown taps form samples k
outputs_shown-entry taps samples form k n lt =
    get_or-map-range_with_len (output_shown taps form samples) 0 n k k (pos 0) lt (zero-add k)

-- a block of weighed is made
pub block-made : (taps samples list block : List ℤ) (form : Form) (at : ℕ) → AreAhead taps form
    → AreSmallAt taps form.plus samples (at - form.delay) → span taps form ≤ at + 1
    → at + 16 ≤ length samples
    → block ≡ map (output_shown taps form (shown taps samples (at - form.delay)))
    (range_with_len 0 16)
    → MadeSoFar (weighed taps form samples) list at
    → MadeSoFar (weighed taps form samples) (list ++ block) (at + 16)
block-made taps samples list block form at are small long within is made =
    let first = at - form.delay in
    let len : length block ≡ 16 = ap length is in
    subst (λ n. MadeSoFar (weighed taps form samples) (list ++ block) (at + n)) len
    (MadeSoFar-append (weighed taps form samples) list block at made
    (omega (arith, weighed-length taps form samples)) (λ k lt.
    let below : k < 16 = omega arith in
    block-output taps samples form at k are small long within below
    ∙ ap Ok (sym (ap (λ xs. get_or xs k (pos 0)) is
    ∙ outputs_shown-entry taps (shown taps samples first) form k 16 below))))

-- where there was memory, the list is longer
pub OnOk-extended : {A E : Type 0} (r : Result A E) (P : List ℤ → Type 0) (old block new : List ℤ)
    → new ≡ (if is_ok r then old ++ block else old) → P (old ++ block) → OnOk r (P new)
OnOk-extended (Ok a) P old block new is made = subst P (sym is) made
OnOk-extended (Err e) P old block new is made = tt

-- ---- the whole list

-- the weighed at the samples before number `at`, and from where on these are within the limit
pub record AreFiltered (taps : List ℤ) (form : Form) (samples list : List ℤ)
    (at small_from limit : ℕ) : Type 0 where
  pub made : MadeSoFar (weighed taps form samples) list at
  pub within : at ≤ length samples
  pub from : small_from ≤ at
  pub small : AreSmall limit samples small_from at

-- the outputs at the samples before number `at`, which were put, and from where on these are within
-- the limit
pub record AreInTurn (taps : List ℤ) (form : Form) (samples list : List ℤ)
    (at small_from limit : ℕ) : Type 0 where
  pub put : PutSoFar (outputs taps form samples) list at
  pub within : at ≤ length samples
  pub from : small_from ≤ at
  pub small : AreSmall limit samples small_from at

-- the next samples are within the limit too
pub AreSmall-more : (limit : ℕ) (samples : List ℤ) (since at end : ℕ) → end ≤ length samples
    → All (λ x. unsigned_abs x ≤ limit) (take (end - at) (drop at samples))
    → AreSmall limit samples since at → AreSmall limit samples since end
AreSmall-more limit samples since at end within all before m ge lt = by (cases_lt m at)
  where
    by : (m < at) ⊎ (at ≤ m) → unsigned_abs (get_or samples m (pos 0)) ≤ limit
    by (inl below) = before m ge below
    by (inr above) =
        let len = length-chunk at (end - at) samples (omega arith) in
        let entry : get_or (take (end - at) (drop at samples)) (m - at) (pos 0)
        ≡ get_or samples (at + (m - at)) (pos 0) =
        get_or-chunk at (end - at) samples (m - at) (pos 0) (omega arith) in
        let place : at + (m - at) ≡ m = omega arith in
        let same = entry ∙ ap (λ i. get_or samples i (pos 0)) place in
        let small = all (m - at) (pos 0) (omega arith) in
        rw (← same) small

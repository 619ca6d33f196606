-- The numbers of a block of samples that are weighed at once.
use Rattle.std.proofs.Common.{◌≡◌, ℕ, ◌+◌, ◌-◌, ◌*◌, ◌^◌, ◌<◌, ◌≤◌, List, [], ◌∷◌, ◌++◌, length, take, drop, get_or, map, ℤ, pos, ◌+ℤ◌, Ok, refl, sym, ap, ◌∙◌, arith}
use Rattle.std.specs.Prelude.{unsigned_abs}
use Rattle.std.specs.List.{All, range_with_len}
use Rattle.std.proofs.lemmas.List.{get_or-append-add, length-append}
use Rattle.stream_filters.specs.Sums.{shifted_down, weight}
use Rattle.stream_filters.specs.Weighing.{AreAhead, weighed_after, weighed, weighed_behind, span}
use Rattle.stream_filters.specs.declared.form.Form.{Form}
use Rattle.stream_filters.specs.WeigherFields.{AreSmallAt, HasWeighed, window_of}
use Rattle.stream_filters.specs.Lanes.{output_shown}
use Rattle.stream_filters.specs.Range.{before_out_of_range, ranged}
use Rattle.stream_filters.proofs.Before.{before-ranged}
use Rattle.stream_filters.proofs.Lines.{AreRecent, AreSmall-behind, Agree, Agree-append, Agree-push, Agree-stands, Shows-agree, fir_of}
use Rattle.stream_filters.proofs.PlainLists.{length-weighed_behind, weighed-block, weighed-length}
use Rattle.stream_filters.proofs.Weighted.{weighted-same}
use Rattle.stream_filters.proofs.WholeLists.{block-output, outputs_shown-entry, shown}

-- a number looks at the last samples alone, as many as there are taps
pub weighed_behind-agree : (taps : List ℤ) (form : Form) (line taken xs : List ℤ)
    → Agree (span taps form) line taken
    → weighed_behind taps form line xs ≡ weighed_behind taps form taken xs
weighed_behind-agree taps form line taken [] agree = refl
weighed_behind-agree taps form line taken (x ∷ xs) agree =
    let more = Agree-push (span taps form) line taken x agree in
    let first : weighed_after taps form (line ++ x ∷ [])
    ≡ weighed_after taps form (taken ++ x ∷ []) =
    ap (λ z. shifted_down (z +ℤ form.plus) form.shift)
    (weighted-same _ _ taps (λ j lt. more (form.delay + j) (omega arith))) in
    ap (λ z. z ∷ weighed_behind taps form (line ++ x ∷ []) xs) first
    ∙ ap (λ zs. weighed_after taps form (taken ++ x ∷ []) ∷ zs)
    (weighed_behind-agree taps form (line ++ x ∷ []) (taken ++ x ∷ []) xs more)

-- ---- many at once

-- the part of a line that the windows of a block show
pub shown_is : (taps line xs whole : List ℤ) (form : Form) (end count : ℕ) → whole ≡ line ++ xs
    → length xs ≡ 16 → end ≡ length whole - form.delay → count ≡ length taps
    → span taps form ≤ length line
    → take (end - (end + 1 - 16 - count)) (drop (end + 1 - 16 - count) whole)
    ≡ shown taps (line ++ xs) (length line - form.delay)
shown_is taps line xs whole form end count is sixteen end_is count_is held =
    let first = length line - form.delay in
    let long : length whole ≡ length line + 16 =
    ap length is ∙ (length-append line xs ∙ ap (λ n. length line + n) sixteen) in
    let from : end + 1 - 16 - count ≡ first + 1 - length taps = omega arith in
    let many : end - (first + 1 - length taps) ≡ first + 16 - (first + 1 - length taps) =
    omega arith in
    ap (λ m. take (end - m) (drop m whole)) from
    ∙ (ap (λ m. take m (drop (first + 1 - length taps) whole)) many
    ∙ ap (λ l. take (first + 16 - (first + 1 - length taps)) (drop (first + 1 - length taps) l)) is)

-- the samples that they show are small enough
pub AreSmallAt-behind : (taps line xs : List ℤ) (form : Form) (limit : ℕ) → limit < 2 ^ 31
    → weight taps * limit + unsigned_abs form.plus < 2 ^ 63 → length xs ≡ 16
    → span taps form ≤ length line → AreRecent limit (span taps form) 0 line
    → All (λ x. unsigned_abs x ≤ limit) xs
    → AreSmallAt taps form.plus (line ++ xs) (length line - form.delay)
AreSmallAt-behind taps line xs form limit short fits sixteen held recent all = record {
  limit = limit;
  short = short;
  fits = fits;
  small = λ m from to.
      AreSmall-behind limit (span taps form) line xs recent all m (omega arith)
      (omega (arith, sixteen));
}

-- the weighed of a block are those at its samples
pub HasWeighed-block : (taps line old xs block made : List ℤ) (form : Form) → AreAhead taps form
    → AreSmallAt taps form.plus (line ++ xs) (length line - form.delay)
    → span taps form ≤ length line → length xs ≡ 16
    → window_of (span taps form) line ≡ window_of (span taps form) old
    → block ≡ map (output_shown taps form (shown taps (line ++ xs) (length line - form.delay)))
    (range_with_len 0 16)
    → HasWeighed (fir_of taps form old) (fir_of taps form (line ++ xs)) xs made (made ++ block)
HasWeighed-block taps line old xs block made form are small held sixteen same is = record {
  made = λ taken has.
      let agree = Agree-stands taps form old line taken same has in
      ap (λ l. made ++ l) (sym (ap before_out_of_range (weighed_behind-agree taps form taken line xs
      (λ j lt. sym (agree j lt))) ∙ before-ranged (weighed_behind taps form line xs) block
      (length-weighed_behind taps form line xs ∙ (sixteen ∙ sym long)) each));
  all = omega (arith, length-append made block, long);
  shows = λ taken has.
      let agree = Agree-stands taps form old line taken same has in
      Shows-agree taps form (line ++ xs) (taken ++ xs)
      (Agree-append (span taps form) line taken xs agree);
  taps = refl;
  form = refl;
}
  where
    long : length block ≡ 16
    long = ap length is

    whole : length line + 16 ≤ length (line ++ xs)
    whole = omega (arith, length-append line xs)

    entry : (k : ℕ) → get_or (weighed_behind taps form line xs) k (pos 0)
        ≡ get_or (weighed taps form (line ++ xs)) (length line + k) (pos 0)
    entry k =
        let first = weighed taps form line in
        let rest = weighed_behind taps form line xs in
        sym (ap (λ l. get_or l (length line + k) (pos 0)) (weighed-block taps form line xs)
        ∙ (ap (λ n. get_or (first ++ rest) (n + k) (pos 0)) (sym (weighed-length taps form line))
        ∙ get_or-append-add first rest k (pos 0)))

    each : (k : ℕ) → k < length block → ranged (get_or (weighed_behind taps form line xs) k (pos 0))
        ≡ Ok (get_or block k (pos 0))
    each k lt =
        let below : k < 16 = omega (arith, long) in
        let held_at : span taps form ≤ length line + 1 = omega arith in
        ap ranged (entry k)
        ∙ (block-output taps (line ++ xs) form (length line) k are small held_at whole below
        ∙ ap Ok (sym (ap (λ l. get_or l k (pos 0)) is
        ∙ outputs_shown-entry taps (shown taps (line ++ xs) (length line - form.delay)) form k 16
        below)))

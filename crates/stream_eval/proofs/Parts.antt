-- Parts of the list of a filter.
use Rattle.std.proofs.Common.{◌≡◌, ◌≤◌, ◌<◌, ◌⊎◌, inl, inr, ℕ, ◌+◌, ◌-◌, ◌++◌, [], List, length, take, drop, get_or, ℤ, pos, ◌+ℤ◌, None, Some, sym, ap, subst, ◌∙◌, arith}
use Rattle.std.specs.Prelude.{Option, IfSome}
use Rattle.std.specs.List.{position_from}
use Rattle.std.proofs.lemmas.Bool.{cases_lt}
use Rattle.std.proofs.lemmas.List.{drop-drop, take_all, get_or-take, get_or-drop, length-take-le, length-drop, same_lists, take_more}
use Rattle.std.proofs.lemmas.Simd.{length-chunk, get_or-chunk}
use Rattle.std.proofs.Math.Seq.{take-add}
use Rattle.phase_accum.specs.Sends.{AreSends}
use Rattle.stream_filters.specs.Filter.{back, output_after, outputs, reach, shifted_down, summed, with_single}
use Rattle.stream_filters.specs.declared.form.Form.{Form}
use Rattle.stream_lists.specs.Ranges.{is_out_of_range}
use Rattle.phase_accum.proofs.Parts.{AreSends-append, AreSends-drop}
use Rattle.stream_filters.proofs.Outputs.{alone-after, back_is, back-before, outputs-entry, outputs-length}
use Rattle.stream_filters.proofs.Weighted.{weighted-same}
use Rattle.stream_lists.proofs.Fitting.{none_out, all_sends}
use Rattle.stream_eval.specs.Parts.{ArePart}

-- ---- parts that follow one another

pub part-none : (whole : List ℤ) (at : ℕ) → ArePart whole at at []
part-none whole at =
    let none : at - at ≡ 0 = omega arith in
    record { values_are = sym (ap (λ n. take n (drop at whole)) none); sends = tt }

-- two parts that follow one another
pub part-two : (whole : List ℤ) (from mid to : ℕ) (xs ys : List ℤ) → from ≤ mid → mid ≤ to
    → ArePart whole from mid xs → ArePart whole mid to ys → ArePart whole from to (xs ++ ys)
part-two whole from mid to xs ys first second front behind =
    let size : mid - from + (to - mid) ≡ to - from = omega arith in
    let place : from + (mid - from) ≡ mid = omega arith in
    record {
      values_are = ap (λ l. l ++ ys) front.values_are
          ∙ (ap (λ l. take (mid - from) (drop from whole) ++ l) (behind.values_are
          ∙ ap (λ n. take (to - mid) (drop n whole)) (sym place)
          ∙ ap (take (to - mid)) (sym (drop-drop (mid - from) from whole)))
          ∙ (sym (take-add (mid - from) (to - mid) (drop from whole))
          ∙ ap (λ n. take n (drop from whole)) size));
      sends = AreSends-append xs ys front.sends behind.sends;
    }

-- ---- the whole

pub part-whole : (whole values : List ℤ) → ArePart whole 0 (length whole) values
    → (values ≡ whole) × (position_from is_out_of_range 0 whole ≡ None)
part-whole whole values part =
    let size : length whole - 0 ≡ length whole = omega arith in
    let same : values ≡ whole = part.values_are
    ∙ (ap (λ n. take n whole) size ∙ take_all (length whole) whole (omega arith)) in
    (same, subst (λ l. position_from is_out_of_range 0 l ≡ None) same (none_out 0 values part.sends))

-- ---- a part of the list of a filter

-- the samples at which a filter is asked for its outputs, so many before them in front
abbrev pub with_lead : List ℤ → ℕ → ℕ → ℕ → List ℤ
with_lead samples lead from to = take (to - (from - lead)) (drop (from - lead) samples)

pub length-with_lead : (samples : List ℤ) (lead from to : ℕ) → lead ≤ from → from ≤ to
    → to ≤ length samples → length (with_lead samples lead from to) ≡ to - (from - lead)
length-with_lead samples lead from to front order within =
    length-chunk (from - lead) (to - (from - lead)) samples (omega arith)

-- what stands before an output is the same where enough samples are in front, or all that there are
same-back : (samples : List ℤ) (reached lead from to k j : ℕ) → lead ≤ from → from ≤ to
    → to ≤ length samples → (from ≤ lead) ⊎ (reached ≤ lead + 1) → k < to - from → j < reached
    → back (take (lead + k + 1) (with_lead samples lead from to)) j
    ≡ back (take (from + k + 1) samples) j
same-back samples reached lead from to k j front order within enough lt near =
    by (cases_lt j (lead + k + 1))
  where
    shown : List ℤ
    shown = with_lead samples lead from to

    len : length (take (lead + k + 1) shown) ≡ lead + k + 1
    len = length-take-le (lead + k + 1) shown
        (omega (arith, length-with_lead samples lead from to front order within))

    all : length (take (from + k + 1) samples) ≡ from + k + 1
    all = length-take-le (from + k + 1) samples (omega arith)

    by : (j < lead + k + 1) ⊎ (lead + k + 1 ≤ j)
        → back (take (lead + k + 1) shown) j ≡ back (take (from + k + 1) samples) j
    by (inl there) =
        let place : from - lead + (lead + k - j) ≡ from + k - j = omega arith in
        back_is (take (lead + k + 1) shown) (lead + k) j len (omega arith)
        ∙ (get_or-take (lead + k + 1) shown (lead + k - j) (pos 0) (omega arith)
        ∙ (get_or-chunk (from - lead) (to - (from - lead)) samples (lead + k - j) (pos 0) (omega arith)
        ∙ (ap (λ i. get_or samples i (pos 0)) place
        ∙ (sym (get_or-take (from + k + 1) samples (from + k - j) (pos 0) (omega arith))
        ∙ sym (back_is (take (from + k + 1) samples) (from + k) j all (omega arith))))))
    by (inr past) =
        let least : from ≤ lead = first enough in
        back-before (take (lead + k + 1) shown) j (omega (arith, len))
        ∙ sym (back-before (take (from + k + 1) samples) j (omega (arith, all, least)))
      where
        first : (from ≤ lead) ⊎ (reached ≤ lead + 1) → from ≤ lead
        first (inl is) = is
        first (inr few) = absurd (omega arith)

-- the output at a sample, of a filter that weighs nothing that it put
alone-output : (taps samples : List ℤ) (form : Form) (n : ℕ) → form.again ≡ 0 → n < length samples
    → output_after taps form (take (n + 1) samples) ≡ with_single form.single
    (shifted_down (summed (back (take (n + 1) samples)) taps form) form.shift)
alone-output taps samples form n none lt =
    let more = take_more samples n (pos 0) lt in
    ap (λ l. output_after taps form l) more
    ∙ (alone-after taps form (take n samples) (get_or samples n (pos 0)) none
    ∙ ap (λ l. with_single form.single (shifted_down (summed (back l) taps form) form.shift))
    (sym more))

same-output : (taps samples : List ℤ) (form : Form) (lead from to k : ℕ) → form.again ≡ 0
    → lead ≤ from → from ≤ to
    → to ≤ length samples → (from ≤ lead) ⊎ (reach taps form ≤ lead + 1) → k < to - from
    → output_after taps form (take (lead + k + 1) (with_lead samples lead from to))
    ≡ output_after taps form (take (from + k + 1) samples)
same-output taps samples form lead from to k none front order within enough lt =
    let size = length-with_lead samples lead from to front order within in
    alone-output taps (with_lead samples lead from to) form (lead + k) none (omega (arith, size))
    ∙ (ap (λ z. with_single form.single (shifted_down (z +ℤ form.plus) form.shift))
    (weighted-same _ _ taps
    (λ j near. same-back samples (reach taps form) lead from to k (form.delay + j) front order within
    enough lt (omega (arith, none))))
    ∙ sym (alone-output taps samples form (from + k) none (omega arith)))

-- the outputs behind those in front
outputs-behind : (taps samples : List ℤ) (form : Form) (lead from to : ℕ) → form.again ≡ 0
    → lead ≤ from → from ≤ to
    → to ≤ length samples → (from ≤ lead) ⊎ (reach taps form ≤ lead + 1)
    → drop lead (outputs taps form (with_lead samples lead from to))
    ≡ take (to - from) (drop from (outputs taps form samples))
outputs-behind taps samples form lead from to none front order within enough =
    same_lists _ _ (omega (arith, few, many)) (λ k d lt.
    let below : k < to - from = omega (arith, few) in
    get_or-drop lead (outputs taps form shown) k d
    ∙ (outputs-entry taps form shown (lead + k) d (omega (arith, size))
    ∙ (same-output taps samples form lead from to k none front order within enough below
    ∙ (sym (outputs-entry taps form samples (from + k) d (omega arith))
    ∙ sym (get_or-chunk from (to - from) (outputs taps form samples) k d below)))))
  where
    shown : List ℤ
    shown = with_lead samples lead from to

    size : length shown ≡ to - (from - lead)
    size = length-with_lead samples lead from to front order within

    few : length (drop lead (outputs taps form shown)) ≡ to - from
    few = omega (arith, length-drop lead (outputs taps form shown), outputs-length taps form shown, size)

    many : length (take (to - from) (drop from (outputs taps form samples))) ≡ to - from
    many = length-chunk from (to - from) (outputs taps form samples)
        (omega (arith, outputs-length taps form samples))

-- the part that a filter makes
pub filter-part : (taps samples made : List ℤ) (form : Form) (lead from to : ℕ) → form.again ≡ 0
    → lead ≤ from → from ≤ to → to ≤ length samples → (from ≤ lead) ⊎ (reach taps form ≤ lead + 1)
    → made ≡ outputs taps form (with_lead samples lead from to)
    → position_from is_out_of_range 0 (outputs taps form (with_lead samples lead from to)) ≡ None
    → ArePart (outputs taps form samples) from to (drop lead made)
filter-part taps samples made form lead from to none front order within enough is fits = record {
  values_are = ap (drop lead) is
      ∙ outputs-behind taps samples form lead from to none front order within enough;
  sends = AreSends-drop lead made (subst AreSends (sym is) (all_sends 0 _ fits));
}

-- of what is there, if anything is
pub IfSome-weaker : {T : Type 0} (found : Option T) (P Q : T → Type 0) → ((x : T) → P x → Q x)
    → IfSome found P → IfSome found Q
IfSome-weaker None P Q weaker is = tt
IfSome-weaker (Some x) P Q weaker is = weaker x is

use Rattle.std.proofs.Common.{rules, arith, ℕ, ℤ, List, ◌≡◌, ◌+◌, ◌-◌, ◌<◌, ◌≤◌, ◌+ℤ◌, ◌++◌, [], ◌∷◌, length, get_or, map, take, drop, pos, sym, ap, subst, ◌∙◌, w64, FitsSigned, zero-add}
use Rattle.std.specs.Int.{w128}
use Rattle.std.specs.List.{range_with_len}
use Rattle.std.proofs.lemmas.Int.{fits_signed_from_abs, to_z-of_z}
use Rattle.std.proofs.lemmas.List.FromFn.{get_or-map-range_with_len}
use Rattle.stream_filters.specs.Filter.{AreTaps, back, output_behind, reach, outputs, shifted_down, summed, taps_ahead, weighted, with_single}
use Rattle.stream_filters.specs.FilterFields.{PutSoFar}
use Rattle.stream_filters.specs.Lanes.{sum_shown}
use Rattle.stream_filters.specs.Range.{ranged}
use Rattle.stream_filters.specs.WeigherFields.{AreSmallAt, IsNarrow}
use Rattle.stream_filters.specs.declared.form.Form.{Form}
use Rattle.stream_filters.proofs.Firs.{AreAhead-taps, again-light, length-ahead, rest}
use Rattle.stream_filters.proofs.InTurn.{next-output, put_of-more}
use Rattle.stream_filters.proofs.Made.{MadeSoFar-fault, MadeSoFar-more}
use Rattle.stream_filters.proofs.ManySums.{before-added-small}
use Rattle.stream_filters.proofs.Outputs.{outputs-length}
use Rattle.stream_filters.proofs.WholeLists.{IsNarrow-shown, block-sum, shown}
use Rattle.stream_filters.proofs.whole_list.add_block_in_turn.Goals as goal
use Rattle.stream_filters.proofs.whole_list.add_block_in_turn.Goals.{After-in_range}

-- the samples in the windows, as many as the taps for samples want
part : (taps samples : List ℤ) (form : Form) (first : ℕ)
    → let start = first + 1 - (length taps - form.again) in
    take (first + 16 - start) (drop start samples) ≡ shown (taps_ahead taps form) samples first
part taps samples form first =
    ap (λ n. take (first + 16 - (first + 1 - n)) (drop (first + 1 - n) samples))
    (sym (length-ahead taps form))

narrow : (taps samples : List ℤ) (form : Form) (at : ℕ) → AreTaps taps form
    → AreSmallAt (taps_ahead taps form) form.plus samples (at - form.delay)
    → reach taps form ≤ at + 1 → at + 16 ≤ length samples
    → IsNarrow (taps_ahead taps form) form.plus (shown (taps_ahead taps form) samples (at - form.delay))
narrow taps samples form at are small long within =
    let ahead = AreAhead-taps taps form are in
    let some = are.some in
    let count = length-ahead taps form in
    IsNarrow-shown (taps_ahead taps form) samples form (at - form.delay) ahead small
    (omega (arith, count, some, long)) (omega (arith, within))

-- the samples are small
pub block_sums-sums-requires-clause-narrow : goal.block_sums-sums-requires-clause-narrow
block_sums-sums-requires-clause-narrow c =
    let taps = c.args.taps.now in
    let form = c.args.form.now in
    rw (part taps c.args.samples.now form (c.args.at - form.delay))
    (narrow taps c.args.samples.now form c.args.at c.requires.taps c.requires.small
    c.requires.within.0 c.requires.within.1)

pub loop-k-init : goal.loop-k-init
loop-k-init c =
    let same : c.args.at ≡ c.args.at + 0 = omega arith in
    subst (PutSoFar (outputs c.args.taps.now c.args.form.now c.args.samples.now) c.args.list.now.items)
    same c.requires.put

-- the taps for what was put weigh little
pub output_for-requires-clause-light : goal.output_for-requires-clause-light
output_for-requires-clause-light c =
    rw (rest c.args.taps.now (length c.args.taps.now - c.args.form.now.again))
    (again-light c.args.taps.now c.args.form.now c.requires.taps)

-- the sum is that of the next sample
sum : (c : After-in_range) → c.from-sum.result
    ≡ summed (back (take (c.args.at + c.loop-k.k + 1) c.args.samples.now))
    (taps_ahead c.args.taps.now c.args.form.now) c.args.form.now
sum c =
    let taps = taps_ahead c.args.taps.now c.args.form.now in
    let form = c.args.form.now in
    let samples = c.args.samples.now in
    let at = c.args.at in
    let k = c.loop-k.k in
    let windows = shown taps samples (at - form.delay) in
    let count = length-ahead c.args.taps.now form in
    let some = c.requires.taps.some in
    let here : get_or c.block_sums-sums.result k (pos 0) ≡ sum_shown taps form windows k =
    ap (λ l. get_or l k (pos 0)) (c.block_sums-sums.ensures
    ∙ ap (λ l. map (sum_shown taps form l) (range_with_len 0 16))
    (part c.args.taps.now samples form (at - form.delay)))
    ∙ get_or-map-range_with_len (sum_shown taps form windows) 0 16 k k (pos 0) c.loop-k-test.true
    (zero-add k) in
    let small = before-added-small taps form.plus windows
    (narrow c.args.taps.now samples form at c.requires.taps c.requires.small c.requires.within.0
    c.requires.within.1) (length taps - 1 + k) in
    let fits : FitsSigned w64 (sum_shown taps form windows k) = fits_signed_from_abs w64 _ small in
    c.from-sum.ensures ∙ (rw here (to_z-of_z w64 _ fits))
    ∙ block-sum taps samples form at k (omega (arith, count, some))
    (omega (arith, count, c.requires.within)) (omega (arith, c.requires.within)) c.loop-k-test.true

-- the answer is that of the next output
next : (c : After-in_range)
    → ranged (get_or (outputs c.args.taps.now c.args.form.now c.args.samples.now)
    (c.args.at + c.loop-k.k) (pos 0)) ≡ c.in_range.result
next c =
    let taps = c.args.taps.now in
    let form = c.args.form.now in
    let samples = c.args.samples.now in
    let n = c.args.at + c.loop-k.k in
    let list = c.loop-k.list.items in
    let below : n < length samples = omega (arith, c.requires.within, c.loop-k-test.true) in
    let fits : FitsSigned w128 c.output_for.result = search rules in
    let sum_fits : FitsSigned w128 c.from-sum.result = search rules in
    ap ranged (next-output taps form samples list n c.loop-k.invariant.made c.loop-k.invariant.put below
    ∙ (ap (λ l. output_behind taps form (take (n + 1) samples) l) (sym c.deref.ensures.value)
    ∙ sym (to_z-of_z w128 _ fits ∙ (c.output_for.ensures
    ∙ (ap (λ z. with_single form.single (shifted_down (z +ℤ weighted (back c.deref.result.now)
    (take (length taps - (length taps - form.again)) (drop (length taps - form.again) taps)))
    form.shift)) (to_z-of_z w128 _ sum_fits ∙ sum c)
    ∙ ap (λ l. with_single form.single (shifted_down (summed (back (take (n + 1) samples))
    (taps_ahead taps form) form +ℤ weighted (back c.deref.result.now) l) form.shift))
    (rest taps (length taps - form.again)))))))
    ∙ sym c.in_range.ensures

-- the next output is the first out of range
pub returns-in_default-clause-too_big : goal.returns-in_default-clause-too_big
returns-in_default-clause-too_big c step e =
    let taps = c.args.taps.now in
    let samples = c.args.samples.now in
    let n = c.args.at + c.loop-k.k in
    let long = outputs-length taps c.args.form.now samples in
    let here = MadeSoFar-fault (outputs taps c.args.form.now samples) _ n c.in_default.field-0
    c.loop-k.invariant.made (omega (arith, long, c.requires.within, c.loop-k-test.true))
    (next (goal.at.returns-in_default-clause-too_big c).After-in_range ∙ c.in_default.is) in
    grind (arith, here, e)

-- the next output is in range
pub loop-k-preserved : goal.loop-k-preserved
loop-k-preserved c =
    let taps = c.args.taps.now in
    let samples = c.args.samples.now in
    let whole = outputs taps c.args.form.now samples in
    let n = c.args.at + c.loop-k.k in
    let long = outputs-length taps c.args.form.now samples in
    let fits : FitsSigned w64 c.in-Ok.y = search rules in
    let answer = next (goal.at.loop-k-preserved c).After-in_range ∙ c.in-Ok.is in
    let one : n + 1 ≡ c.args.at + (c.loop-k.k + 1) = omega arith in
    rw (c.in-Ok-push.ensures.items, to_z-of_z w64 c.in-Ok.y fits)
    (subst (PutSoFar whole (c.loop-k.list.items ++ c.in-Ok.y ∷ [])) one (record {
      made = MadeSoFar-more whole _ n c.in-Ok.y c.loop-k.invariant.made
          (omega (arith, long, c.requires.within, c.loop-k-test.true)) answer;
      put = put_of-more _ (get_or whole n (pos 0)) c.in-Ok.y c.loop-k.invariant.put answer;
    }))

-- all 16 are made
pub returns-clause-put : goal.returns-clause-put
returns-clause-put c =
    let all : c.args.at + c.loop-k.k ≡ c.args.at + 16 =
    omega (arith, c.loop-k-test.false, c.loop-k.auto.k-end) in
    subst (PutSoFar (outputs c.args.taps.now c.args.form.now c.args.samples.now) c.loop-k.list.items)
    all c.loop-k.invariant

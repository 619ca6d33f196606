use Rattle.std.proofs.Common.{rules, arith, ◌≡◌, ℕ, ◌+◌, ◌-◌, ◌<◌, ◌≤◌, length, reverse, slice_index_or, pos, ◌+ℤ◌, ◌*ℤ◌, unsigned_abs, w64, FitsSigned, to_z, of_z, refl, sym, ◌∙◌}
use Rattle.std.proofs.lemmas.Int.{to_z-of_z, fits_signed_from_abs}
use Rattle.std.proofs.lemmas.List.{length-reverse, get_or-reverse}
use Rattle.stream_filters.specs.Sums.{back}
use Rattle.stream_filters.proofs.Weighted.{IsSumOf, IsSumOf-none, IsSumOf-more, IsSumOf-small, IsSumOf-enough}
use Rattle.stream_filters.proofs.sums.narrow_sum_back.Goals as goal

-- no sample is summed yet
pub loop-j-init : goal.loop-j-init
loop-j-init c limit small = IsSumOf-none limit c.args.taps.now (reverse c.args.samples.now)

-- samples within the limit have 32 bits
pub short_product-sum-requires-clause-y : goal.short_product-sum-requires-clause-y
short_product-sum-requires-clause-y c =
    let samples = c.args.samples.now in
    let j = c.loop-j.j in
    let below : j < length samples = omega (arith, c.min-j-end.ensures, c.loop-j-test.true) in
    let few : j < length c.args.taps.now = omega
    (arith, c.min-j-end.ensures, c.loop-j-test.true) in
    let sample : FitsSigned w64 (slice_index_or samples (length samples - 1 - j) (pos 0)) =
    search rules in
    let small : unsigned_abs (slice_index_or samples (length samples - 1 - j) (pos 0))
    ≤ c.requires.limit =
    rw (← get_or-reverse samples j (pos 0) below) (c.requires.small j few) in
    let short = c.requires.short in
    rw (to_z-of_z w64 _ sample) (omega arith)

-- what is added
added : (c : goal.After-short_product-sum) → to_z w64 (of_z w64 c.short_product-sum.result)
    ≡ slice_index_or c.args.taps.now c.loop-j.j (pos 0)
    *ℤ slice_index_or c.args.samples.now (length c.args.samples.now - 1 - c.loop-j.j) (pos 0)
added c =
    let tap : FitsSigned w64 (slice_index_or c.args.taps.now c.loop-j.j (pos 0)) = search rules in
    let sample : FitsSigned w64
    (slice_index_or c.args.samples.now (length c.args.samples.now - 1 - c.loop-j.j)
    (pos 0)) = search rules in
    let product : FitsSigned w64 c.short_product-sum.result = search rules in
    to_z-of_z w64 c.short_product-sum.result product
    ∙ simp to_z-of_z at c.short_product-sum.ensures

-- the sum with one more sample
more : (c : goal.After-short_product-sum) (limit : ℕ)
    → ((j : ℕ) → j < length c.args.taps.now → unsigned_abs (back c.args.samples.now j) ≤ limit)
    → IsSumOf limit c.args.taps.now (reverse c.args.samples.now) (c.loop-j.j + 1)
    (to_z w64 c.loop-j.sum-bits +ℤ (slice_index_or c.args.taps.now c.loop-j.j (pos 0)
    *ℤ slice_index_or c.args.samples.now (length c.args.samples.now - 1 - c.loop-j.j) (pos 0)))
more c limit small =
    let samples = c.args.samples.now in
    let j = c.loop-j.j in
    let below : j < length samples = omega (arith, c.min-j-end.ensures, c.loop-j-test.true) in
    let few : j < length c.args.taps.now = omega
    (arith, c.min-j-end.ensures, c.loop-j-test.true) in
    IsSumOf-more limit c.args.taps.now (reverse samples) j _ _ _ (c.loop-j.invariant limit small)
    (omega (arith, length-reverse samples)) few refl
    (sym (get_or-reverse samples j (pos 0) below))
    (rw (← get_or-reverse samples j (pos 0) below) (small j few))

-- which the sum's type holds
pub overflow_add-sum : goal.overflow_add-sum
overflow_add-sum c =
    let below = c.requires.fits in
    let small = IsSumOf-small _ _ _ _ _ (more c c.requires.limit c.requires.small) in
    rw (added c) (fits_signed_from_abs w64 _ (omega arith))

-- so nothing is lost
pub loop-j-preserved : goal.loop-j-preserved
loop-j-preserved c limit small =
    let fits = overflow_add-sum c in
    rw (to_z-of_z w64 _ fits, added c) (more c limit small)

-- each tap weighs its sample, or there is none
pub returns : goal.returns
returns c =
    IsSumOf-enough _ _ _ _ _ (c.loop-j.invariant c.requires.limit c.requires.small)
    (omega (arith, c.min-j-end.ensures, c.loop-j-test.false, length-reverse c.args.samples.now))

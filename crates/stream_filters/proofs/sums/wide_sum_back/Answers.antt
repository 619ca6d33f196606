use Rattle.std.proofs.Common.{rules, arith, ◌≡◌, ℕ, ◌+◌, ◌-◌, ◌*◌, ◌^◌, ◌<◌, ◌≤◌, length, reverse, slice_index_or, pos, ◌+ℤ◌, ◌*ℤ◌, w64, FitsSigned, to_z, of_z, refl, sym, ◌∙◌}
use Rattle.std.specs.Int.{w128}
use Rattle.std.proofs.lemmas.Int.{to_z-of_z, fits_signed_from_abs}
use Rattle.std.proofs.lemmas.List.{length-reverse, get_or-reverse}
use Rattle.std.proofs.lemmas.Nat.{mul-le}
use Rattle.std.specs.Int.Signed.{nat_abs-le}
use Rattle.stream_filters.specs.Sums.{weight}
use Rattle.stream_filters.proofs.Weighted.{IsSumOf, IsSumOf-none, IsSumOf-more, IsSumOf-small, IsSumOf-enough}
use Rattle.stream_filters.proofs.sums.wide_sum_back.Goals as goal

-- no sample is summed yet
pub loop-j-init : goal.loop-j-init
loop-j-init c = IsSumOf-none _ c.args.taps.now (reverse c.args.samples.now)

-- a sum over taps of this weight has at most 100 bits
light_taps : (n : ℕ) → n ≤ 2 ^ 41 → n * 2 ^ 63 ≤ 2 ^ 104
light_taps n light = mul-le n (2 ^ 63) (2 ^ 41) (2 ^ 63) light (omega arith)

-- what is added
added : (c : goal.After-product-sum) → to_z w128 (of_z w128 c.product-sum.result)
    ≡ slice_index_or c.args.taps.now c.loop-j.j (pos 0)
    *ℤ slice_index_or c.args.samples.now (length c.args.samples.now - 1 - c.loop-j.j) (pos 0)
added c =
    let tap : FitsSigned w64 (slice_index_or c.args.taps.now c.loop-j.j (pos 0)) = search rules in
    let sample : FitsSigned w64
    (slice_index_or c.args.samples.now (length c.args.samples.now - 1 - c.loop-j.j)
    (pos 0)) = search rules in
    let product : FitsSigned w128 c.product-sum.result = search rules in
    to_z-of_z w128 c.product-sum.result product ∙ simp to_z-of_z at c.product-sum.ensures.value

-- the sum with one more sample
more : (c : goal.After-product-sum)
    → IsSumOf (2 ^ 63) c.args.taps.now (reverse c.args.samples.now) (c.loop-j.j + 1)
    (to_z w128 c.loop-j.sum-bits +ℤ (slice_index_or c.args.taps.now c.loop-j.j (pos 0)
    *ℤ slice_index_or c.args.samples.now (length c.args.samples.now - 1 - c.loop-j.j) (pos 0)))
more c =
    let samples = c.args.samples.now in
    let sample : FitsSigned w64 (slice_index_or samples (length samples - 1 - c.loop-j.j)
    (pos 0)) = search rules in
    let below : c.loop-j.j < length samples = omega
    (arith, c.min-j-end.ensures, c.loop-j-test.true) in
    IsSumOf-more _ c.args.taps.now (reverse samples) c.loop-j.j _ _ _ c.loop-j.invariant
    (omega (arith, length-reverse samples)) (omega (
      arith,
      c.min-j-end.ensures,
      c.loop-j-test.true,
    )) refl
    (sym (get_or-reverse samples c.loop-j.j (pos 0) below))
    (nat_abs-le (slice_index_or samples (length samples - 1 - c.loop-j.j) (pos 0)) sample.sfits)

-- which the sum's type holds
pub overflow_add-sum : goal.overflow_add-sum
overflow_add-sum c =
    rw (added c) (fits_signed_from_abs w128 _ (
    let small = IsSumOf-small _ _ _ _ _ (more c) in
    let light : weight c.args.taps.now * 2 ^ 63 ≤ 2 ^ 104 = light_taps _ c.requires in
    omega arith))

-- so nothing is lost
pub loop-j-preserved : goal.loop-j-preserved
loop-j-preserved c =
    let fits = overflow_add-sum c in
    rw (to_z-of_z w128 _ fits, added c) (more c)

-- each tap weighs its sample, or there is none
pub returns-clause-sum : goal.returns-clause-sum
returns-clause-sum c =
    IsSumOf-enough _ _ _ _ _ c.loop-j.invariant
    (omega (arith, c.min-j-end.ensures, c.loop-j-test.false, length-reverse c.args.samples.now))

-- which is not large
pub returns-clause-small : goal.returns-clause-small
returns-clause-small c =
    let small = IsSumOf-small _ _ _ _ _ c.loop-j.invariant in
    let light = light_taps (weight c.args.taps.now) c.requires in
    omega (arith, small, light)

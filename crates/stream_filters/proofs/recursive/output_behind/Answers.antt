use Rattle.std.proofs.Common.{rules, ◌≡◌, ◌-◌, ◌+ℤ◌, FitsSigned, to_z, of_z, length, take, drop, ap, ◌∙◌}
use Rattle.std.specs.Int.{w128}
use Rattle.std.proofs.lemmas.Int.{to_z-of_z}
use Rattle.stream_filters.specs.Filter.{back, shifted_down, summed, taps_ahead, weighted, with_single}
use Rattle.stream_filters.proofs.Firs.{again-light, rest}
use Rattle.stream_filters.proofs.Weighted.{weighted-same}
use Rattle.stream_filters.proofs.recursive.output_behind.Goals as goal

-- which weigh little
pub output_for-requires-clause-light : goal.output_for-requires-clause-light
output_for-requires-clause-light c =
    rw (rest c.args.taps.now (length c.args.taps.now - c.args.form.now.again)) (again-light c.args.taps.now c.args.form.now c.requires)

-- and the samples up to the earlier one give the sum
pub returns : goal.returns
returns c =
    let taps = c.args.taps.now in
    let form = c.args.form.now in
    let puts = c.args.puts.now in
    let fits : FitsSigned w128 c.output_for.result = search rules in
    let sum_fits : FitsSigned w128 c.wide_sum-sum.result = search rules in
    let sum : to_z w128 (of_z w128 c.wide_sum-sum.result)
    ≡ summed (back c.args.samples.now) (taps_ahead taps form) form =
    to_z-of_z w128 _ sum_fits ∙ (c.wide_sum-sum.ensures.sum ∙ ap (λ z. z +ℤ form.plus)
    (weighted-same _ _ (taps_ahead taps form) (λ j lt. c.earlier.ensures j))) in
    to_z-of_z w128 _ fits ∙ (c.output_for.ensures
    ∙ (ap (λ z. with_single form.single (shifted_down (z +ℤ weighted (back puts)
    (take (length taps - (length taps - form.again)) (drop (length taps - form.again) taps)))
    form.shift)) sum
    ∙ ap (λ l. with_single form.single (shifted_down (summed (back c.args.samples.now)
    (taps_ahead taps form) form +ℤ weighted (back puts) l) form.shift))
    (rest taps (length taps - form.again))))

use Rattle.std.proofs.Common.{rules, ◌+ℤ◌, FitsSigned, ap, ◌∙◌}
use Rattle.std.specs.Int.{w128}
use Rattle.std.proofs.lemmas.Int.{to_z-of_z}
use Rattle.stream_filters.specs.Sums.{shifted_down}
use Rattle.stream_filters.specs.Range.{ranged}
use Rattle.stream_filters.proofs.Weighted.{weighted-same}
use Rattle.stream_filters.proofs.whole_list.last_weighed.Goals as goal

-- the samples up to the earlier one give the sum
pub returns : goal.returns
returns c =
    let fits : FitsSigned w128 c.wide_output.result = search rules in
    let form = c.args.form.now in
    c.in_range.ensures ∙ ap ranged (to_z-of_z w128 _ fits ∙ (c.wide_output.ensures
    ∙ ap (λ z. shifted_down (z +ℤ form.plus) form.shift)
    (weighted-same _ _ c.args.taps.now (λ j lt. c.earlier.ensures j))))

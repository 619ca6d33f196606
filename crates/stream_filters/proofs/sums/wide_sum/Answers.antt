use Rattle.std.proofs.Common.{rules, arith, ◌≡◌, ◌+ℤ◌, ◌≤◌, unsigned_abs, w64, FitsSigned, to_z, of_z, ap, ◌∙◌}
use Rattle.std.specs.Int.{w128}
use Rattle.std.proofs.lemmas.Int.{fits_signed_from_abs, to_z-of_z}
use Rattle.stream_filters.specs.Sums.{back, weighted}
use Rattle.stream_filters.proofs.Weighted.{abs_add}
use Rattle.stream_filters.proofs.Windows.{weight-small}
use Rattle.stream_filters.proofs.sums.wide_sum.Goals as goal
use Rattle.stream_filters.proofs.sums.wide_sum.Goals.{After-from}

-- 1,024 taps weigh little
pub wide_sum_back-requires : goal.wide_sum_back-requires
wide_sum_back-requires c = weight-small c.args.taps.now c.args.form.now c.requires

-- what is added
plus_is : (c : After-from) → to_z w128 (of_z w128 c.from.result) ≡ c.args.form.now.plus
plus_is c =
    let plus : FitsSigned w64 c.args.form.now.plus = search rules in
    let from : FitsSigned w128 c.from.result = search rules in
    to_z-of_z w128 _ from ∙ (c.from.ensures ∙ to_z-of_z w64 _ plus)

-- 128 bits hold the sum with it
fits : (c : After-from) → FitsSigned w128 (to_z w128 (of_z w128 c.wide_sum_back.result)
    +ℤ to_z w128 (of_z w128 c.from.result))
fits c =
    let sum : FitsSigned w128 c.wide_sum_back.result = search rules in
    let small = c.wide_sum_back.ensures.small in
    let little : unsigned_abs c.args.form.now.plus ≤ 4611686018427387904 = c.requires.plus_small in
    let both = abs_add c.wide_sum_back.result c.args.form.now.plus in
    rw (to_z-of_z w128 _ sum, plus_is c)
    (fits_signed_from_abs w128 _ (omega (arith, small, little, both)))

-- and it is the sum of the numbers
whole : (c : After-from) → to_z w128 (of_z w128 (to_z w128 (of_z w128 c.wide_sum_back.result)
    +ℤ to_z w128 (of_z w128 c.from.result)))
    ≡ weighted (back c.args.samples.now) c.args.taps.now +ℤ c.args.form.now.plus
whole c =
    let sum : FitsSigned w128 c.wide_sum_back.result = search rules in
    to_z-of_z w128 _ (fits c)
    ∙ (ap (λ z. z +ℤ to_z w128 (of_z w128 c.from.result))
    (to_z-of_z w128 _ sum ∙ c.wide_sum_back.ensures.sum)
    ∙ ap (λ z. weighted (back c.args.samples.now) c.args.taps.now +ℤ z) (plus_is c))

pub overflow_add-result : goal.overflow_add-result
overflow_add-result c = fits (goal.at.overflow_add-result c).After-from

pub returns-clause-sum : goal.returns-clause-sum
returns-clause-sum c = whole (goal.at.returns-clause-sum c).After-from

pub returns-clause-small : goal.returns-clause-small
returns-clause-small c =
    let small = c.wide_sum_back.ensures.small in
    let little : unsigned_abs c.args.form.now.plus ≤ 4611686018427387904 = c.requires.plus_small in
    let both = abs_add c.wide_sum_back.result c.args.form.now.plus in
    rw (whole (goal.at.returns-clause-small c).After-from, ← c.wide_sum_back.ensures.sum)
    (omega (arith, small, little, both))

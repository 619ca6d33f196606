use Rattle.std.proofs.Common.{rules, ◌+ℤ◌, w64, FitsSigned, to_z, of_z, ap, ◌∙◌}
use Rattle.std.proofs.lemmas.Int.{fits_signed_from_abs, to_z-of_z}
use Rattle.stream_filters.specs.Sums.{back, weighted}
use Rattle.stream_filters.proofs.Weighted.{IsNarrowBack-added, IsNarrowBack-alone}
use Rattle.stream_filters.proofs.sums.narrow_sum.Goals as goal

-- 64 bits hold the sum with what is added
pub overflow_add-result : goal.overflow_add-result
overflow_add-result c =
    let sum : FitsSigned w64 c.narrow_sum_back.result = search rules in
    let plus : FitsSigned w64 c.args.form.now.plus = search rules in
    rw (to_z-of_z w64 _ sum, to_z-of_z w64 _ plus, c.narrow_sum_back.ensures)
    (fits_signed_from_abs w64 _ (IsNarrowBack-added _ _ _ c.requires))

pub returns : goal.returns
returns c =
    let sum : FitsSigned w64 c.narrow_sum_back.result = search rules in
    let plus : FitsSigned w64 c.args.form.now.plus = search rules in
    let form = c.args.form.now in
    let fits : FitsSigned w64 (to_z w64 (of_z w64 c.narrow_sum_back.result)
    +ℤ to_z w64 (of_z w64 form.plus)) =
    rw (to_z-of_z w64 _ sum, to_z-of_z w64 _ plus, c.narrow_sum_back.ensures)
    (fits_signed_from_abs w64 _ (IsNarrowBack-added _ _ _ c.requires)) in
    to_z-of_z w64 _ fits
    ∙ (ap (λ z. z +ℤ to_z w64 (of_z w64 form.plus)) (to_z-of_z w64 _ sum ∙ c.narrow_sum_back.ensures)
    ∙ ap (λ z. weighted (back c.args.samples.now) c.args.taps.now +ℤ z) (to_z-of_z w64 _ plus))

-- so they do with nothing added
pub narrow_sum_back-requires : goal.narrow_sum_back-requires
narrow_sum_back-requires c = IsNarrowBack-alone _ _ _ c.requires

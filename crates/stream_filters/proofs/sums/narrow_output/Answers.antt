use Rattle.std.proofs.Common.{rules, ◌≡◌, ◌+ℤ◌, w64, FitsSigned, sym, ap, ◌∙◌}
use Rattle.std.proofs.lemmas.Int.{to_z-of_z}
use Rattle.stream_filters.specs.Sums.{back, shifted_down, weighted}
use Rattle.stream_filters.proofs.Weighted.{IsNarrowBack-added, ranged-shifted_down}
use Rattle.stream_filters.proofs.sums.narrow_output.Goals as goal

-- 64 bits hold what is shifted down
pub returns : goal.returns
returns c =
    let sum : FitsSigned w64 c.narrow_sum.result = search rules in
    let shifted : FitsSigned w64 c.narrow_shifted.result = search rules in
    let form = c.args.form.now in
    let added = weighted (back c.args.samples.now) c.args.taps.now +ℤ form.plus in
    let shifted_is : c.narrow_shifted.result ≡ shifted_down added form.shift =
    c.narrow_shifted.ensures ∙ ap (λ z. shifted_down z form.shift)
    (to_z-of_z w64 _ sum ∙ c.narrow_sum.ensures) in
    rw (to_z-of_z w64 _ shifted, shifted_is)
    (sym (ranged-shifted_down added form.shift (IsNarrowBack-added _ _ _ c.requires.narrow)))

use Rattle.std.proofs.Common.{◌≡◌, ℤ, pos, negsuc, ap, ◌∙◌}
use Rattle.std.proofs.Math.Nat.{div-one}
use Rattle.stream_filters.specs.Sums.{shifted_down}
use Rattle.stream_filters.specs.Lanes.{output_shown, sum_shown}
use Rattle.stream_filters.proofs.Outputs.{map-range_with_len_same}
use Rattle.stream_filters.proofs.blocks.block_sums.Goals as goal

-- shifted by no bit, a number is the same
unshifted : (z : ℤ) → shifted_down z 0 ≡ z
unshifted (pos n) = ap pos (div-one n)
unshifted (negsuc n) = ap negsuc (div-one n)

pub returns : goal.returns
returns c =
    let taps = c.args.taps.now in
    let form = c.args.form.now in
    let samples = c.args.samples.now in
    c.block_outputs.ensures
    ∙ map-range_with_len_same (output_shown taps (record form { shift = 0 }) samples)
    (sum_shown taps form samples) 16 (λ k lt. unshifted (sum_shown taps form samples k))

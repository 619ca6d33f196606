use Rattle.std.proofs.Common.{◌≡◌, ◌-◌, length, take, ap, ◌∙◌, arith}
use Rattle.stream_filters.specs.Sums.{back}
use Rattle.stream_filters.proofs.Outputs.{back-earlier}
use Rattle.stream_filters.proofs.sums.earlier.Goals as goal

pub returns : goal.returns
returns c j =
    let samples = c.args.samples.now in
    let count : c.saturating_sub.result ≡ length samples - c.args.delay =
    omega (arith, c.saturating_sub.ensures) in
    ap (λ n. back (take n samples) j) count ∙ back-earlier samples c.args.delay j

use Rattle.std.proofs.Common.{rules, ◌≡◌, ◌<◌, ◌+◌, ◌*◌, ◌^◌, length, pos, w64, FitsSigned, sym, ap, subst, ◌∙◌, arith}
use Rattle.std.specs.Prelude.{unsigned_abs}
use Rattle.std.proofs.lemmas.Int.{to_z-of_z}
use Rattle.stream_filters.specs.Sums.{at_place, back, weight}
use Rattle.stream_filters.specs.Weighing.{AreAhead, span}
use Rattle.stream_filters.specs.WeigherFields.{window_of}
use Rattle.stream_filters.proofs.Lines.{window_of-shows}
use Rattle.stream_filters.proofs.Windows.{weight-small}
use Rattle.stream_filters.proofs.weigher.Weigher.new.Goals as goal

-- the taps weigh little
pub weight_of-requires : goal.weight_of-requires
weight_of-requires c = weight-small c.args.taps.now c.args.form.now c.requires

-- the line shows zeros
pub invariant_of-result : goal.invariant_of-result
invariant_of-result c =
    let taps = c.in_ok-taps.ensures.items in
    let form = c.args.form.now in
    let line = c.in_ok-line.line.items in
    let limit = c.narrow_limit-limit.result in
    let n = span c.in_ok-taps.taps.items form in
    let fits : FitsSigned w64 form.plus = search rules in
    let plus = to_z-of_z w64 form.plus fits in
    let weights : c.weight_of.result ≡ weight c.in_ok-taps.taps.items =
    c.weight_of.ensures ∙ ap weight (sym taps) in
    let held = c.in_ok-line.ensures.held in
    let many : n ≡ length line = omega (arith, held, ap length taps) in
    record {
      are_ahead = subst (λ l. AreAhead l form) (sym taps) c.requires;
      held = omega (arith, many);
      room = omega (arith, many, held, c.in_ok-line.ensures.room);
      short = c.narrow_limit-limit.ensures.short;
      light = subst (λ w. w * limit + unsigned_abs form.plus < 2 ^ 63) weights
          (subst (λ p. c.weight_of.result * limit + unsigned_abs p < 2 ^ 63) plus
          c.narrow_limit-limit.ensures.light);
      recent = λ j lt.
          let below : j < length line = omega (arith, many, lt) in
          let zero : back line j ≡ pos 0 =
          sym (window_of-shows (length line) line j below)
          ∙ (ap (λ m. at_place (window_of m line) j) held ∙ c.in_ok-line.ensures.zeros j) in
          rw zero (omega arith);
    }

use Rattle.std.proofs.Common.{rules, arith, ◌+◌, ◌+ℤ◌, FitsSigned, w64, ap, ◌∙◌}
use Rattle.std.specs.Int.{w128}
use Rattle.std.proofs.lemmas.Int.{to_z-of_z}
use Rattle.stream_filters.proofs.Lines.{IsNarrowBack-recent, summed-line}
use Rattle.stream_filters.proofs.Weighted.{weighted-same}
use Rattle.stream_filters.proofs.weigher.Weigher.sum.Goals as goal

-- no sample past the limit is left
pub narrow_sum-requires : goal.narrow_sum-requires
narrow_sum-requires c =
    rw c.deref-2.ensures.value
    (IsNarrowBack-recent c.self.inside.taps.items c.earlier-samples.result.now c.self.inside.form
    c.self.inside.limit c.self.invariant.are_ahead c.self.invariant.short c.self.invariant.light
    (λ j lt. rw (c.earlier-samples.ensures j, c.deref.ensures.value)
    (c.self.invariant.recent (c.self.inside.form.delay + j) (omega arith))))

-- the sum at the last sample of the line
pub returns-then-self-gt0-clause-sum : goal.returns-then-self-gt0-clause-sum
returns-then-self-gt0-clause-sum c =
    let fits : FitsSigned w128 c.wide_sum.result = search rules in
    let form = c.self.inside.form in
    rw (
      ← c.self.view_is,
      summed-line c.self.inside.taps.items form c.self.inside.line.items,
      ← c.deref.ensures.value,
      ← c.deref-then-self-gt0.ensures.value,
    )
    (to_z-of_z w128 _ fits ∙ (c.wide_sum.ensures.sum ∙ ap (λ z. z +ℤ form.plus)
    (weighted-same _ _ c.deref-then-self-gt0.result.now (λ j lt. c.earlier-samples.ensures j))))

pub returns-clause-sum : goal.returns-clause-sum
returns-clause-sum c =
    let narrow : FitsSigned w64 c.narrow_sum.result = search rules in
    let fits : FitsSigned w128 c.from.result = search rules in
    let form = c.self.inside.form in
    rw (
      ← c.self.view_is,
      summed-line c.self.inside.taps.items form c.self.inside.line.items,
      ← c.deref.ensures.value,
      ← c.deref-2.ensures.value,
    )
    (to_z-of_z w128 _ fits ∙ (c.from.ensures ∙ (to_z-of_z w64 _ narrow ∙ (c.narrow_sum.ensures
    ∙ ap (λ z. z +ℤ form.plus)
    (weighted-same _ _ c.deref-2.result.now (λ j lt. c.earlier-samples.ensures j))))))

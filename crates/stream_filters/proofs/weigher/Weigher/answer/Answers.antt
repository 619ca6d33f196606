use Rattle.std.proofs.Common.{rules, arith, ◌+◌, ◌+ℤ◌, Ok, w64, FitsSigned, ap, ◌∙◌}
use Rattle.std.proofs.lemmas.Int.{to_z-of_z}
use Rattle.stream_filters.specs.Sums.{shifted_down}
use Rattle.stream_filters.specs.Range.{ranged}
use Rattle.stream_filters.proofs.Lines.{answer_at-line, IsNarrowBack-recent}
use Rattle.stream_filters.proofs.Weighted.{weighted-same}
use Rattle.stream_filters.proofs.weigher.Weigher.answer.Goals as goal

-- no sample past the limit is left
pub narrow_output-requires-clause-narrow : goal.narrow_output-requires-clause-narrow
narrow_output-requires-clause-narrow c =
    rw c.deref-3.ensures.value
    (IsNarrowBack-recent c.self.inside.taps.items c.earlier-samples.result.now c.self.inside.form
    c.self.inside.limit c.self.invariant.are_ahead c.self.invariant.short c.self.invariant.light
    (λ j lt. rw (c.earlier-samples.ensures j, c.deref-2.ensures.value)
    (c.self.invariant.recent (c.self.inside.form.delay + j) (omega arith))))

-- the answer is the output at the last sample of the line
pub returns-then-self-gt0 : goal.returns-then-self-gt0
returns-then-self-gt0 c =
    rw (
      ← c.self.view_is,
      answer_at-line c.self.inside.taps.items c.self.inside.form
          c.self.inside.line.items,
      ← c.deref.ensures.value,
      ← c.deref-then-self-gt0.ensures.value,
    )
    c.last_weighed.ensures

pub returns : goal.returns
returns c =
    let fits : FitsSigned w64 c.narrow_output.result = search rules in
    let form = c.self.inside.form in
    rw (
      ← c.self.view_is,
      answer_at-line c.self.inside.taps.items c.self.inside.form
          c.self.inside.line.items,
      ← c.deref-2.ensures.value,
      ← c.deref-3.ensures.value,
    )
    (ap Ok (to_z-of_z w64 _ fits) ∙ (c.narrow_output.ensures
    ∙ ap (λ z. ranged (shifted_down (z +ℤ form.plus) form.shift))
    (weighted-same _ _ c.deref-3.result.now (λ j lt. c.earlier-samples.ensures j))))

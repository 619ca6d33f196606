use Rattle.std.proofs.Common.{rules, ◌≤◌, ◌^◌, ◌++◌, FitsSigned, sym, ap, subst, ◌∙◌}
use Rattle.std.specs.Int.{w128}
use Rattle.std.proofs.lemmas.Int.{to_z-of_z}
use Rattle.stream_filters.specs.Filter.{IsPlainForm, weight}
use Rattle.stream_filters.specs.Range.{ranged}
use Rattle.stream_filters.proofs.Firs.{again-light, joined-again, output_of-fields, output_of-plain}
use Rattle.stream_filters.proofs.fir.Fir.answer.Goals as goal

-- the taps for what was put weigh little
pub output_for-requires-clause-light : goal.output_for-requires-clause-light
output_for-requires-clause-light c =
    let w = c.self.inside.weigher in
    let again = c.self.inside.again.items in
    let same = joined-again w.taps again w.form c.self.invariant.again in
    rw c.deref.ensures.value (subst (λ l. weight l ≤ 2 ^ 41) same
    (again-light (w.taps ++ again) w.form c.self.invariant.are_taps))

-- the weigher's answer
pub returns-then-is_plain : goal.returns-then-is_plain
returns-then-is_plain c =
    let w = c.self.inside.weigher in
    let plain : IsPlainForm w.form = subst IsPlainForm c.form-form.ensures.form
    (c.is_plain.ensures.0 c.if-is_plain.true) in
    rw (← c.self.view_is) (c.answer.ensures ∙ ap ranged (sym
    (output_of-plain w c.self.inside.again.items c.self.inside.puts.items
    c.self.invariant.again plain)))

-- the sum of what the weigher gives and of what was put
pub returns : goal.returns
returns c =
    let w = c.self.inside.weigher in
    let again = c.self.inside.again.items in
    let puts = c.self.inside.puts.items in
    let fits : FitsSigned w128 c.output_for.result = search rules in
    let sum_fits : FitsSigned w128 c.sum.result = search rules in
    let sum = to_z-of_z w128 _ sum_fits ∙ c.sum.ensures.sum in
    rw (
      ← c.self.view_is,
      output_of-fields w again puts c.self.invariant.again,
      ← sum,
      ← c.deref.ensures.value,
      ← c.deref-2.ensures.value,
      ← c.form-form.ensures.form,
    )
    (c.in_range.ensures ∙ ap ranged (to_z-of_z w128 _ fits ∙ c.output_for.ensures))

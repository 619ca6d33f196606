-- One more part behind those before it.
use Rattle.std.proofs.Common.{◌≡◌, ◌≤◌, ◌++◌, ◌∷◌, suc, All, IfSome, Option, None, sym, subst, rules, arith}
use Rattle.stream_eval.specs.Parts.{ArePart}
use Rattle.stream_filters.specs.Filter.{outputs}
use Rattle.phase_eval.specs.FilterParts.{IsFilterPart}
use Rattle.phase_eval.specs.declared.filtering.FilterPart.{FilterPart}
use Rattle.phase_eval.proofs.filtering.join.Goals as goal

pub loop-part-preserved : goal.loop-part-preserved
loop-part-preserved c =
    let whole = outputs c.args.taps.now c.args.form c.args.samples.now in
    let at = c.loop-part.at in
    let part = c.in-Some-part.part in
    let rest = c.next.new.self.rest.items in
    let inv = c.loop-part.invariant in
    let P : Option FilterPart → Type 0 = λ part. IfSome part (IsFilterPart whole) in
    let all : All P (c.in-Some.part ∷ rest) =
    subst (All P) c.in-Some.ensures.steps.0 inv.left in
    let is : IsFilterPart whole part = subst P c.in-Some-part.is (all 0 None (omega arith)) in
    let from : part.from ≡ at = search rules in
    let items : c.extend_from_slice.new.self.items
    ≡ c.loop-part.values.items ++ part.values.items = search rules in
    let order : at ≤ part.to = omega (arith, from, is.order) in
    record {
      left = λ k d lt. all (suc k) d (omega (arith, lt));
      values = subst (ArePart whole 0 part.to) (sym items)
          (c.parts_follow.ensures.two whole 0 at part.to c.loop-part.values.items
          part.values.items (omega arith) order inv.values
          (subst (λ n. ArePart whole n part.to part.values.items) from is.values));
    }

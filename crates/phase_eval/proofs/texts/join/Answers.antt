-- One more part behind those before it.
use Rattle.std.proofs.Common.{◌≡◌, ◌≤◌, ◌++◌, ◌∷◌, suc, All, IfSome, Option, None, sym, subst, rules, arith}
use Rattle.graph_lang.specs.PlainLines.{ArePlainLines}
use Rattle.phase_eval.specs.Texts.{IsReadPart}
use Rattle.phase_eval.specs.declared.texts.ReadPart.{ReadPart}
use Rattle.phase_eval.proofs.texts.join.Goals as goal

pub loop-part-preserved : goal.loop-part-preserved
loop-part-preserved c =
    let text = c.args.text.now in
    let at = c.loop-part.at in
    let part = c.in-Some-part.part in
    let rest = c.next.new.self.rest.items in
    let inv = c.loop-part.invariant in
    let P : Option ReadPart → Type 0 = λ part. IfSome part (IsReadPart text) in
    let all : All P (c.in-Some.part ∷ rest) =
    subst (All P) c.in-Some.ensures.steps.0 inv.left in
    let is : IsReadPart text part = subst P c.in-Some-part.is (all 0 None (omega arith)) in
    let from : part.from ≡ at = search rules in
    let items : c.extend_from_slice.new.self.items
    ≡ c.loop-part.values.items ++ part.values.items = search rules in
    let order : at ≤ part.to = omega (arith, from, is.order) in
    record {
      left = λ k d lt. all (suc k) d (omega (arith, lt));
      lines = subst (ArePlainLines text 0 part.to) (sym items)
          (c.parts_have_samples.ensures.two text 0 at part.to c.loop-part.values.items
          part.values.items (omega arith) order inv.lines
          (subst (λ n. ArePlainLines text n part.to part.values.items) from is.lines));
    }

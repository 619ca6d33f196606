-- One more part behind those before it.
use Rattle.std.proofs.Common.{◌≡◌, ◌++◌, ◌∷◌, ◌∙◌, suc, [], All, IfSome, Option, None, ap, subst, arith, rules}
use Rattle.std.specs.List.{flat_map}
use Rattle.graph_commands.specs.Puts.{bytes_of}
use Rattle.phase_eval.specs.Texts.{IsTextPart}
use Rattle.phase_eval.specs.declared.texts.TextPart.{TextPart}
use Rattle.phase_eval.proofs.TextLemmas.{one_more}
use Rattle.phase_eval.proofs.texts.in_order.Goals as goal

pub loop-part-preserved : goal.loop-part-preserved
loop-part-preserved c =
    let values = c.args.values.now in
    let part = c.in-Some-part.part in
    let rest = c.next.new.self.rest.items in
    let inv = c.loop-part.invariant in
    let P : Option TextPart → Type 0 = λ part. IfSome part (IsTextPart values) in
    let all : All P (c.in-Some.part ∷ rest) =
    subst (All P) c.in-Some.ensures.steps.0 inv.left in
    let is : IsTextPart values part = subst P c.in-Some-part.is (all 0 None (omega arith)) in
    let items : c.push.new.self.items ≡ c.loop-part.texts.items ++ part.text ∷ [] = search rules in
    record {
      within = is.within;
      left = λ k d lt. all (suc k) d (omega (arith, lt));
      texts = ap (flat_map bytes_of) items
          ∙ one_more values c.loop-part.at part c.loop-part.texts.items c.if-part-at.false is
          inv.texts;
    }

-- One more line, and the end of the part.
use Rattle.std.proofs.Common.{ℤ, List, ◌≡◌, ◌≤◌, ◌+◌, ◌++◌, ◌∷◌, [], arith, rules, append-nil, append_assoc, length-append, drop, sym, subst}
use Rattle.std.proofs.lemmas.Int.{to_z-of_z}
use Rattle.std.proofs.lemmas.List.{length-drop}
use mir.Syntax.{w64}
use mir.Val.{SFits}
use Rattle.phase_accum.specs.Sends.{AreSends}
use Rattle.phase_accum.proofs.Parts.{AreSends-append}
use Rattle.graph_lang.specs.PlainLines.{Leads}
use Rattle.graph_lang.proofs.PlainLines.{bare-more, line-more-at, rest-is}
use Rattle.graph_lang.proofs.plain.plain_part.Goals as goal

pub loop-at-init : goal.loop-at-init
loop-at-init c =
    let text = c.args.text.now in
    let from = c.args.from in
    let order : from ≤ c.args.to = c.requires.order in
    let within = c.requires.within in
    let none : c.new-values.result.items ≡ [] = search rules in
    record {
      within = omega arith;
      from = omega arith;
      few = rw none omega arith;
      bare = λ zero some. absurd (omega (arith, zero, some));
      sends = subst AreSends (sym none) tt;
      leads = λ before lead.
          subst (λ (values : List ℤ). Leads text (before ++ values) (drop from text)) (sym none)
          (subst (λ (values : List ℤ). Leads text values (drop from text))
          (sym (append-nil before)) lead);
    }

pub loop-at-preserved : goal.loop-at-preserved
loop-at-preserved c =
    let inv = c.loop-at.invariant in
    let text = c.args.text.now in
    let at = c.loop-at.at in
    let line = c.in-Some.line in
    let begins = rw (rest-is text at) at c.in-Some.ensures.some in
    let fits : SFits w64 line.value = search rules in
    let items : c.push.new.self.items ≡ c.loop-at.values.items ++ line.value ∷ [] =
    simp to_z-of_z at c.in_ok-push-in-Some.ensures.items in
    let left = length-drop at text in
    let short = begins.line.within in
    let some = begins.some in
    let behind = inv.from in
    record {
      within = omega arith;
      from = omega arith;
      few = rw items omega (arith, length-append c.loop-at.values.items (line.value ∷ []), inv.few);
      bare = λ zero _. bare-more text at line.value line.size begins (inv.bare zero);
      sends = rw items (AreSends-append c.loop-at.values.items (line.value ∷ []) inv.sends (begins.send, tt));
      leads = λ before lead.
          subst (λ (values : List ℤ). Leads text (before ++ values) (drop (at + line.size) text))
          (sym items) (subst (λ (values : List ℤ). Leads text values (drop (at + line.size) text))
          (append_assoc before c.loop-at.values.items (line.value ∷ []))
          (line-more-at text at (before ++ c.loop-at.values.items) line.value line.size begins
          (inv.leads before lead)));
    }

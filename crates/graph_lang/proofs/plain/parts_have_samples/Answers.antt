-- What stands in front of the second part is what does in front of the first, and the first.
use Rattle.std.proofs.Common.{◌≡◌, ◌<◌, ◌++◌, ℕ, zero, suc, ℤ, List, [], length, drop, refl, subst, append-nil, append_assoc, length-append, arith}
use Rattle.std.proofs.lemmas.List.{drop_all}
use Rattle.csv.specs.Reading.{strip_bom}
use Rattle.phase_accum.proofs.Parts.{AreSends-append}
use Rattle.graph_lang.specs.PlainLines.{Leads}
use Rattle.graph_lang.proofs.PlainLines.{bare-end, leads-none, samples-whole}
use Rattle.graph_lang.proofs.plain.parts_have_samples.Goals as goal

-- no byte order mark, where one of the parts is the first and has a line
bare : (text : List ℕ) (from mid to : ℕ) → from ≡ 0 → 0 < to
    → (from ≡ 0 → 0 < mid → strip_bom text ≡ text)
    → (mid ≡ 0 → 0 < to → strip_bom text ≡ text) → strip_bom text ≡ text
bare text from zero to from_is some first second = second refl some
bare text from (suc mid) to from_is some first second = first from_is (omega arith)

pub returns-clause-none : goal.returns-clause-none
returns-clause-none c = λ text at. record {
  sends = tt;
  few = omega arith;
  bare = λ zero some. absurd (omega (arith, zero, some));
  leads = λ before leads. rw (append-nil before) leads;
}

pub returns-clause-two : goal.returns-clause-two
returns-clause-two c = λ text from mid to xs ys low high first second. record {
  sends = AreSends-append xs ys first.sends second.sends;
  few = omega (arith, length-append xs ys, first.few, second.few, low, high);
  bare = λ zero some. bare text from mid to zero some first.bare second.bare;
  leads = λ before lead.
      subst (λ (values : List ℤ). Leads text values (drop to text)) (append_assoc before xs ys)
      (second.leads (before ++ xs) (first.leads before lead));
}

pub returns-clause-whole : goal.returns-clause-whole
returns-clause-whole c = λ text values part.
    let none : drop (length text) text ≡ [] = drop_all (length text) text (omega arith) in
    let whole : Leads text values (drop (length text) text) = part.leads [] (leads-none text) in (
      samples-whole text values part.sends (subst (Leads text values) none whole)
          (bare-end text (length text) (omega arith) (part.bare refl)),
      part.sends,
      omega (arith, part.few),
    )

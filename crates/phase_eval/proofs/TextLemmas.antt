-- The text of values, part by part.
use Rattle.std.proofs.Common.{◌≡◌, ◌≤◌, ◌+◌, ◌-◌, ◌++◌, ◌∷◌, ◌∙◌, ℕ, ℤ, List, [], take, drop, sym, ap, subst, arith, append-nil}
use Rattle.std.specs.Global.{Global}
use Rattle.std.specs.List.{flat_map}
use Rattle.std.specs.declared.vec.Vec.{Vec}
use Rattle.std.proofs.lemmas.Grind.{flat_map-append}
use Rattle.std.proofs.lemmas.List.Concat.{flat_map-cons}
use Rattle.std.proofs.Math.Seq.{take-add}
use Rattle.graph_commands.specs.OutputTexts.{value_text}
use Rattle.graph_commands.specs.Puts.{bytes_of}
use Rattle.phase_eval.specs.Texts.{IsTextPart}
use Rattle.phase_eval.specs.declared.texts.TextPart.{TextPart}

-- the texts of parts up to a place, and the part from there on
pub one_more : (values : List ℤ) (at : ℕ) (part : TextPart) (texts : List (Vec ℕ Global))
    → part.from ≡ at → IsTextPart values part
    → flat_map bytes_of texts ≡ flat_map value_text (take at values)
    → flat_map bytes_of (texts ++ part.text ∷ []) ≡ flat_map value_text (take part.to values)
one_more values at part texts from is before =
    let order : at ≤ part.to = omega (arith, from, is.order) in
    let whole : at + (part.to - at) ≡ part.to = omega (arith, order) in
    let text : part.text.items ≡ flat_map value_text (take (part.to - at) (drop at values)) =
    subst (λ n. part.text.items ≡ flat_map value_text (take (part.to - n) (drop n values))) from
    is.text_is in
    flat_map-append bytes_of texts (part.text ∷ [])
    ∙ ap (λ l. flat_map bytes_of texts ++ l)
    (flat_map-cons bytes_of part.text [] ∙ append-nil part.text.items)
    ∙ (ap (λ l. l ++ part.text.items) before
    ∙ ap (λ l. flat_map value_text (take at values) ++ l) text)
    ∙ sym (ap (flat_map value_text) (sym (ap (λ n. take n values) whole)
    ∙ take-add at (part.to - at) values)
    ∙ flat_map-append value_text (take at values) (take (part.to - at) (drop at values)))

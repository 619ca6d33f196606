-- The digits spell their number.
use Rattle.std.proofs.Common.{◌≡◌, ◌<◌, ◌≤◌, ◌⊎◌, inl, inr, ◌∙◌, ap, sym, arith, length, take, get_or, get_or-take, List, ℕ}
use Rattle.std.specs.Fmt.{decimal}
use Rattle.std.specs.Str.Parse.{AllDigits, digits_value}
use Rattle.std.proofs.lemmas.List.{length-take-le}
use Rattle.phase_accum.specs.Sends.{value_max}
use Rattle.graph_lang.proofs.Digits.{spells}
use Rattle.graph_lang.proofs.PlainLines.{count-line, rest-is}
use Rattle.graph_lang.proofs.plain.count_in.Goals as goal

-- digits with no 0 before others
word : (text : List ℕ) (size n : ℕ) → AllDigits 10 (take size text) → 0 < size → size ≤ length text
    → ((get_or text 0 0 ≡ 48) × (size ≡ 1)) ⊎ (get_or text 0 0 ≡ 48 → ⊥) → n ≡ digits_value 10 (take size text)
    → n ≤ value_max → take size text ≡ decimal n
word text size n digits some within plain is small =
    let long : length (take size text) ≡ size = length-take-le size text within in
    spells (take size text) digits (omega arith) (alone plain) (omega arith) ∙ ap decimal (sym is)
  where
    alone : ((get_or text 0 0 ≡ 48) × (size ≡ 1)) ⊎ (get_or text 0 0 ≡ 48 → ⊥)
        → get_or (take size text) 0 0 ≡ 48 → length (take size text) ≡ 1
    alone (inl one) e = omega (arith, one.1, length-take-le size text within)
    alone (inr other) e = absurd (other (sym (get_or-take size text 0 0 some) ∙ e))

pub returns-in-Some : goal.returns-in-Some
returns-in-Some c =
    let text = c.args.text.now in
    let digits = c.digits_in-digits in
    let size = digits.result.size in
    let small = c.if-digits-gt-MAGNITUDE_MAX.false in
    let some : 0 < size = omega arith in
    let spelt = word text size digits.result.value digits.ensures.digits some digits.ensures.size
    c.if-digits-ne1.either digits.ensures.value small in
    record {
      some = count-line text digits.result.value size c.in-Some.end spelt small some digits.ensures.size
          (rw (rest-is text size) at c.in-Some.ensures.some);
    }

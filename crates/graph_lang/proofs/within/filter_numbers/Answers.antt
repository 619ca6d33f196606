use Rattle.std.proofs.Common.{◌≡◌, ◌≤◌, ◌<◌, ◌++◌, length, map, is_some, IfSome, refl, subst, sym, ap, ◌∙◌, arith}
use Rattle.std.proofs.lemmas.Bool.{le-leb, lt-leb}
use Rattle.std.proofs.lemmas.List.{length-map}
use Rattle.std.proofs.lemmas.Option.{cond_some}
use Rattle.phase_base.specs.Numbers.{int_value}
use Rattle.graph_text.specs.Lines.{filter_of}
use Rattle.graph_text.specs.Plain.{plain}
use Rattle.graph_lang.specs.WordValues.{form_in}
use Rattle.graph_lang.specs.Faults.{is_form_within, most_taps}
use Rattle.graph_lang.proofs.Sound.{none-if}
use Rattle.graph_lang.proofs.within.filter_numbers.Goals as goal

-- a number of the form is past its limit
pub returns-in_default-clause-within : goal.returns-in_default-clause-within
returns-in_default-clause-within c =
    let filter = filter_of c.args.words in
    let none = none-if (is_form_within filter) (form_in filter)
    (sym c.form_in.ensures ∙ c.in_default.is) in
    rw none refl

-- there are too many taps
pub returns-then-words-most_taps-clause-within : goal.returns-then-words-most_taps-clause-within
returns-then-words-most_taps-clause-within c =
    let filter = filter_of c.args.words in
    let form = cond_some (is_form_within filter) (form_in filter) c.in-Some.form
    (sym c.form_in.ensures ∙ c.in-Some.is) in
    let count = length-map c.args.words.taps.now (λ piece. piece.now) in
    let many : most_taps c.args.version < length filter.taps =
    omega (arith, count, c.if-words-most_taps.true, c.most_taps.ensures) in
    rw (form.0, lt-leb (length filter.taps) (most_taps c.args.version) many) refl

-- a tap is past its limit
pub returns-in-None-clause-within : goal.returns-in-None-clause-within
returns-in-None-clause-within c =
    let filter = filter_of c.args.words in
    let form = cond_some (is_form_within filter) (form_in filter) c.in-Some.form
    (sym c.form_in.ensures ∙ c.in-Some.is) in
    let count = length-map c.args.words.taps.now (λ piece. piece.now) in
    let few : length filter.taps ≤ most_taps c.args.version =
    omega (arith, count, c.if-words-most_taps.false, c.most_taps.ensures) in
    rw (form.0, le-leb (length filter.taps) (most_taps c.args.version) few)
    (sym (ap is_some c.in-None.is) ∙ c.in_ok-all_taps.ensures.within)

-- all are within their limits
pub returns-in-Some-2-clause-within : goal.returns-in-Some-2-clause-within
returns-in-Some-2-clause-within c =
    let filter = filter_of c.args.words in
    let form = cond_some (is_form_within filter) (form_in filter) c.in-Some.form
    (sym c.form_in.ensures ∙ c.in-Some.is) in
    let count = length-map c.args.words.taps.now (λ piece. piece.now) in
    let few : length filter.taps ≤ most_taps c.args.version =
    omega (arith, count, c.if-words-most_taps.false, c.most_taps.ensures) in
    rw (form.0, le-leb (length filter.taps) (most_taps c.args.version) few)
    (sym (ap is_some c.in-Some-2.is) ∙ c.in_ok-all_taps.ensures.within)

pub returns-in-Some-2-clause-numbers : goal.returns-in-Some-2-clause-numbers
returns-in-Some-2-clause-numbers c =
    let filter = filter_of c.args.words in
    let form = cond_some (is_form_within filter) (form_in filter) c.in-Some.form
    (sym c.form_in.ensures ∙ c.in-Some.is) in
    let taps = subst (λ found. IfSome found (λ taps. taps.items
    ≡ map int_value (plain c.args.words.taps.now ++ plain c.args.words.again.now))) c.in-Some-2.is
    c.in_ok-all_taps.ensures.taps in
    (taps, sym form.1, refl, refl)

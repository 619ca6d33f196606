-- What was found for the word.
use Rattle.std.proofs.Common.{◌≡◌, ◌∙◌, ℕ, List, Bor, Option, [], codes, map, option_map, unwrap_or, sym, ap}
use Rattle.std.proofs.lemmas.Result.{IfOk-weaker}
use Rattle.clap.proofs.WalkLemmas.{raw_values-rows}
use Rattle.clap.specs.Words.{found_of, rows_of}
use Rattle.phase_words.specs.Outputs.{words_by}
use Rattle.phase_words.proofs.outputs.to_words.Goals as goal

-- the texts of what was found, or none
abbrev texts_in : Option (Bor (List (Bor (List ℕ)))) → List (List ℕ)
texts_in found = unwrap_or (option_map (λ s. map (λ v. v.now) s.now) found) []

pub returns-in-Some : goal.returns-in-Some
returns-in-Some c =
    let found = found_of c.args.matches.now in
    let is : words_by (rows_of found) ≡ texts_in c.get_strs.result =
    ap (λ o. unwrap_or o []) (sym (c.get_strs.ensures ∙ raw_values-rows found (codes "to"))) in
    IfOk-weaker c.from_slice.result _ _
    (λ r items. ap (map (λ v. v.now)) items ∙ sym (is ∙ ap texts_in c.in-Some.is))
    c.from_slice.ensures.items

pub returns-in-None : goal.returns-in-None
returns-in-None c =
    let found = found_of c.args.matches.now in
    let is : words_by (rows_of found) ≡ texts_in c.get_strs.result =
    ap (λ o. unwrap_or o []) (sym (c.get_strs.ensures ∙ raw_values-rows found (codes "to"))) in
    ap (map (λ v. v.now)) c.new.ensures.items ∙ sym (is ∙ ap texts_in c.in-None.is)

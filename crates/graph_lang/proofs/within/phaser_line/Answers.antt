use Rattle.std.proofs.Common.{rules, ◌≡◌, Some, true, option_map, refl, sym, ◌∙◌}
use Rattle.std.specs.Option.{option_map_or}
use Rattle.std.proofs.lemmas.Option.{cond_some}
use Rattle.phase_base.specs.Numbers.{nat_value}
use Rattle.graph_text.specs.Lines.{single_of as function_words}
use Rattle.graph_lang.specs.WordValues.{single_of}
use Rattle.graph_lang.specs.Faults.{is_bound_within, is_function_within}
use Rattle.graph_lang.proofs.within.phaser_line.Goals as goal

-- both were read
pub returns : goal.returns
returns c =
    let words = c.args.words in
    let functions = function_words words.single in
    let bounded : c.bound_of.result ≡ Some c.in_ok-bound.bound = search rules in
    let named : c.single_in.result ≡ Some c.in_ok-single.single = search rules in
    let bound = cond_some (is_bound_within words.bound.now) (nat_value words.bound.now)
    c.in_ok-bound.bound (sym c.bound_of.ensures ∙ bounded) in
    let single = cond_some (option_map_or is_function_within functions true)
    (option_map single_of functions) c.in_ok-single.single (sym c.single_in.ensures ∙ named) in
    rw (bound.0, single.0, bound.1, single.1) refl

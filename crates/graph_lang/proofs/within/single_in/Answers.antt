use Rattle.std.proofs.Common.{rules, ◌≡◌, Some, sym, ap, ◌∙◌}
use Rattle.std.proofs.lemmas.Option.{cond_some}
use Rattle.graph_text.specs.Lines.{function_of}
use Rattle.graph_lang.specs.WordValues.{single_of}
use Rattle.graph_lang.specs.Faults.{is_function_within}
use Rattle.graph_lang.proofs.within.single_in.Goals as goal

-- there is a single exactly where its numbers are within their limits
pub returns-in_ok-single_of-in-Some : goal.returns-in_ok-single_of-in-Some
returns-in_ok-single_of-in-Some c =
    let function = function_of c.in-Some.function in
    let read : c.single_of.result ≡ Some c.in_ok-single_of-in-Some.field-0 = search rules in
    let single = cond_some (is_function_within function) (single_of function)
    c.in_ok-single_of-in-Some.field-0 (sym c.single_of.ensures ∙ read) in
    rw (c.in-Some.is, single.0) (ap (λ s. Some (Some s)) (sym single.1))

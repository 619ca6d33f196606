-- What was found for each of the command's words.
use Rattle.std.proofs.Common.{◌≡◌, ◌∙◌, [], Some, codes, option_map, unwrap_or, ap, ap₂}
use Rattle.clap.proofs.WalkLemmas.{first_value-rows}
use Rattle.clap.specs.Words.{first_of, found_of, rows_of}
use Rattle.phase_words.specs.CommandLine.{asked_as, explain_of, is_given}
use Rattle.phase_words.proofs.Called.{now-unwrap_or}
use Rattle.phase_words.proofs.command_line.graph_call_with.Goals as goal

pub returns : goal.returns
returns c =
    let name = c.args.name.now in
    let found = found_of c.args.own.now in
    let rows = rows_of found in
    let graph : c.unwrap_or.result.now ≡ unwrap_or (first_of (codes "graph") rows) [] =
    ap (λ s. s.now) c.unwrap_or.ensures ∙ (now-unwrap_or c.get_str.result _
    ∙ ap (λ o. unwrap_or o []) (c.get_str.ensures ∙ first_value-rows found (codes "graph"))) in
    let sink : option_map (λ s. s.now) c.get_str-2.result ≡ first_of (codes "sink") rows =
    c.get_str-2.ensures ∙ first_value-rows found (codes "sink") in
    let columns : c.is_given.result ≡ is_given (first_of (codes "columns") rows) =
    c.is_given.ensures ∙ ap is_given (c.get_str-3.ensures
    ∙ first_value-rows found (codes "columns")) in
    let beside : c.is_given-2.result ≡ is_given (first_of (codes "beside") rows) =
    c.is_given-2.ensures ∙ ap is_given (c.get_str-4.ensures
    ∙ first_value-rows found (codes "beside")) in
    let explain : c.explain_of.result ≡ explain_of (first_of (codes "explain") rows) =
    c.explain_of.ensures ∙ ap explain_of (c.get_str-5.ensures
    ∙ first_value-rows found (codes "explain")) in
    c.call_named.ensures
    ∙ (ap₂ (λ g s. asked_as name (Some g) s c.is_given.result c.is_given-2.result
    c.explain_of.result) graph sink
    ∙ (ap₂ (λ b e. asked_as name (first_of (codes "graph") rows) (first_of (codes "sink") rows) b
    c.is_given-2.result e) columns explain
    ∙ ap (λ b. asked_as name (first_of (codes "graph") rows) (first_of (codes "sink") rows)
    (is_given (first_of (codes "columns") rows)) b (explain_of (first_of (codes "explain") rows)))
    beside))

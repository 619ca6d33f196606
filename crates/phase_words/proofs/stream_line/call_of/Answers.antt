-- What was found for each word.
use Rattle.std.proofs.Common.{◌≡◌, ◌∙◌, codes, refl, ap}
use Rattle.clap.proofs.WalkLemmas.{first_value-rows}
use Rattle.clap.specs.Words.{first_of, found_of, rows_of}
use Rattle.phase_words.specs.CommandLine.{explain_of, is_given}
use Rattle.phase_words.proofs.stream_line.call_of.Goals as goal

pub returns : goal.returns
returns c =
    let found = found_of c.args.matches.now in
    let rows = rows_of found in
    let columns : c.is_given.result ≡ is_given (first_of (codes "columns") rows) =
    c.is_given.ensures ∙ ap is_given (c.get_str.ensures
    ∙ first_value-rows found (codes "columns")) in
    let explain : c.explain_of.result ≡ explain_of (first_of (codes "explain") rows) =
    c.explain_of.ensures ∙ ap explain_of (c.get_str-2.ensures
    ∙ first_value-rows found (codes "explain")) in
    let beside : c.is_given-2.result ≡ is_given (first_of (codes "beside") rows) =
    c.is_given-2.ensures ∙ ap is_given (c.get_str-3.ensures
    ∙ first_value-rows found (codes "beside")) in
    rw (c.graph_of.ensures, c.output_sink.ensures, c.in_ok-files_of.ensures, columns, explain, beside)
    refl

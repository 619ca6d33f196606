-- What was found for each word.
use Rattle.std.proofs.Common.{◌≡◌, ◌∙◌, codes, option_map, refl, ap}
use Rattle.clap.proofs.WalkLemmas.{first_value-rows}
use Rattle.clap.specs.Words.{first_of, found_of, rows_of}
use Rattle.phase_words.specs.CommandLine.{explain_of, is_given}
use Rattle.phase_words.specs.RunLine.{workers_of}
use Rattle.phase_words.proofs.run_line.call_of.Goals as goal

pub returns : goal.returns
returns c =
    let found = found_of c.args.matches.now in
    let rows = rows_of found in
    let sink : option_map (λ s. s.now) c.get_str.result ≡ first_of (codes "sink") rows =
    c.get_str.ensures ∙ first_value-rows found (codes "sink") in
    let workers : c.workers_of.result ≡ workers_of (first_of (codes "workers") rows) =
    c.workers_of.ensures ∙ ap workers_of (c.get_str-2.ensures
    ∙ first_value-rows found (codes "workers")) in
    let explain : c.explain_of.result ≡ explain_of (first_of (codes "explain") rows) =
    c.explain_of.ensures ∙ ap explain_of (c.get_str-3.ensures
    ∙ first_value-rows found (codes "explain")) in
    let beside : c.is_given.result ≡ is_given (first_of (codes "beside") rows) =
    c.is_given.ensures ∙ ap is_given (c.get_str-4.ensures
    ∙ first_value-rows found (codes "beside")) in
    let counts : c.is_given-2.result ≡ is_given (first_of (codes "counts") rows) =
    c.is_given-2.ensures ∙ ap is_given (c.get_str-5.ensures
    ∙ first_value-rows found (codes "counts")) in
    rw (c.graph_of.ensures, sink, workers, explain, beside, counts) refl

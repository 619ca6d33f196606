-- What was found for each of the command's words.
use Rattle.std.proofs.Common.{◌≡◌, ◌∙◌, codes, unwrap_or, ap, ap₂}
use Rattle.clap.proofs.WalkLemmas.{first_value-rows}
use Rattle.clap.specs.Words.{first_of, found_of, rows_of}
use Rattle.phase_words.specs.CommandLine.{replay_by, strict_of}
use Rattle.phase_words.proofs.Called.{now-unwrap_or}
use Rattle.phase_words.proofs.command_line.replay_with.Goals as goal

pub returns : goal.returns
returns c =
    let found = found_of c.args.own.now in
    let rows = rows_of found in
    let script : c.unwrap_or.result.now ≡ unwrap_or (first_of (codes "script") rows) (codes "-") =
    ap (λ s. s.now) c.unwrap_or.ensures ∙ (now-unwrap_or c.get_str.result _
    ∙ ap (λ o. unwrap_or o (codes "-"))
    (c.get_str.ensures ∙ first_value-rows found (codes "script"))) in
    let strict : c.strict_of.result ≡ strict_of (first_of (codes "strict") rows) =
    c.strict_of.ensures ∙ ap strict_of (c.get_str-2.ensures
    ∙ first_value-rows found (codes "strict")) in
    c.replay_of.ensures ∙ ap₂ replay_by strict script

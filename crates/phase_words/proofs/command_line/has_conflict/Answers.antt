-- The command that was found, by what was found for its words.
use Rattle.std.proofs.Common.{◌≡◌, ◌∙◌, Some, sym, ap}
use Rattle.clap.specs.Words.{found_of, rows_of, subcommand_rows_of}
use Rattle.phase_words.specs.CommandLine.{has_conflict}
use Rattle.phase_words.proofs.Called.{found-both, found-name}
use Rattle.phase_words.proofs.command_line.has_conflict.Goals as goal

pub returns-in-Some : goal.returns-in-Some
returns-in-Some c =
    let matches = c.args.matches.now in
    let name = c.in-Some._name.now in
    let rows = rows_of (found_of c.in-Some.own.now) in
    let is : subcommand_rows_of matches ≡ Some (name, rows) =
    found-both (subcommand_rows_of matches) name rows (found-name _ _ ∙ sym c.in-Some.ensures.name)
    (sym c.in-Some.ensures.rows) in
    c.has_both.ensures ∙ sym (ap has_conflict is)

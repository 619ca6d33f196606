-- What was found for the words.
use Rattle.std.proofs.Common.{◌≡◌, ◌∙◌, ◌&&◌, codes, ap, ap₂, sym}
use Rattle.clap.proofs.WalkLemmas.{first_value-rows}
use Rattle.clap.specs.Words.{first_of, found_of, rows_of}
use Rattle.phase_words.specs.CommandLine.{is_given, names_other}
use Rattle.phase_words.proofs.command_line.has_both.Goals as goal

pub returns-then-is_given : goal.returns-then-is_given
returns-then-is_given c =
    let found = found_of c.args.own.now in
    let columns : is_given (first_of (codes "columns") (rows_of found)) ≡ c.is_given.result =
    sym (c.is_given.ensures ∙ ap is_given (c.get_str.ensures
    ∙ first_value-rows found (codes "columns"))) in
    sym (ap₂ (λ a b. a && b) (columns ∙ c.if-is_given.true) (sym c.names_other.ensures))

pub returns-else-is_given : goal.returns-else-is_given
returns-else-is_given c =
    let found = found_of c.args.own.now in
    let columns : is_given (first_of (codes "columns") (rows_of found)) ≡ c.is_given.result =
    sym (c.is_given.ensures ∙ ap is_given (c.get_str.ensures
    ∙ first_value-rows found (codes "columns"))) in
    c.if-is_given.false ∙ sym (ap (λ a. a && names_other (rows_of found))
    (columns ∙ c.if-is_given.false))

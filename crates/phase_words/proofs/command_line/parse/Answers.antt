-- What clap says of its own reading, at the program's command line, and words in conflict.
use Rattle.std.proofs.Common.{◌≡◌, ◌∙◌, [], true, false, ap, sym, refl}
use Rattle.std.proofs.lemmas.Result.{err_from_is_err_and}
use Rattle.clap.specs.Words.{fault_of, subcommand_of}
use Rattle.phase_words.proofs.Conflicts.{has-first}
use Rattle.phase_words.proofs.Simple.{phase_app-is_free, phase_app-is_simple}
use Rattle.phase_words.specs.CommandLine.{asked_by, asked_in, has_conflict, kinds_of, phase_app, texts}
use Rattle.phase_words.proofs.command_line.parse.Goals as goal

pub returns-in_err-matches-clause-fails : goal.returns-in_err-matches-clause-fails
unfolding kinds_of
returns-in_err-matches-clause-fails c =
    let passed_on = c.from_residual in
    let error = err_from_is_err_and passed_on.result passed_on.ensures.1 in
    rw (error.1, error.2)
    (has-first _ _ c.in_err-matches.field-0.0 (c.in_err-matches.ensures.fails phase_app phase_app-is_free c.command.ensures))

-- clap finds no fault, and the words are in conflict
pub returns-then-has_conflict-clause-fails : goal.returns-then-has_conflict-clause-fails
unfolding kinds_of
returns-then-has_conflict-clause-fails c =
    let words = texts c.args.words.now in
    let clean : fault_of phase_app words ≡ [] =
    c.in_ok-matches.ensures.fails phase_app phase_app-is_free c.command.ensures in
    let found = c.in_ok-matches.ensures.command phase_app phase_app-is_simple c.command.ensures in
    let both : has_conflict (subcommand_of phase_app words) ≡ true =
    ap has_conflict (sym found) ∙ (sym c.has_conflict.ensures ∙ c.if-has_conflict.true) in
    rw (clean, both) c.conflict.ensures

-- or they are not
pub returns-clause-fails : goal.returns-clause-fails
unfolding kinds_of
returns-clause-fails c =
    let words = texts c.args.words.now in
    let clean : fault_of phase_app words ≡ [] =
    c.in_ok-matches.ensures.fails phase_app phase_app-is_free c.command.ensures in
    let found = c.in_ok-matches.ensures.command phase_app phase_app-is_simple c.command.ensures in
    let none : has_conflict (subcommand_of phase_app words) ≡ false =
    ap has_conflict (sym found) ∙ (sym c.has_conflict.ensures ∙ c.if-has_conflict.false) in
    rw (clean, none) refl

pub returns-clause-call : goal.returns-clause-call
unfolding asked_in
returns-clause-call c = c.call_of.ensures ∙ ap asked_by
    (c.in_ok-matches.ensures.command phase_app phase_app-is_simple c.command.ensures)

use Rattle.std.proofs.Common.{◌≡◌, ◌∙◌, sym, ap, false}
use Rattle.std.proofs.lemmas.Result.{err_from_is_err_and}
use Rattle.graph_text.specs.Plain.{plain}
use Rattle.graph_text.specs.Texts.{is_ignored, begins_comment}
use Rattle.graph_lang.specs.Reading.{version_in}
use Rattle.graph_lang.proofs.ReadLines.{known-version}
use Rattle.graph_lang.proofs.draft.Draft.read_line.Goals as goal

-- the line is read as it stands, in the version that is known or in the first
pub returns-in_err-read_words-clause-fault : goal.returns-in_err-read_words-clause-fault
returns-in_err-read_words-clause-fault c =
    let line = c.args.line.now in
    let words = ap plain c.deref.ensures.value ∙ c.in_ok-words.ensures in
    let same = ap plain c.deref-2.ensures.value ∙ c.in_ok-words.ensures in
    let going : is_ignored line ≡ false =
    sym (ap begins_comment words) ∙ sym c.begins_comment.ensures ∙ c.if-begins_comment.false in
    let known = known-version c.args.known line c.in-Some.version going
    (sym c.in-Some.is ∙ c.version_in.ensures ∙ ap (version_in c.args.known) same) in
    let passed_on = c.from_residual-in_err-read_words in
    let error = err_from_is_err_and passed_on.result passed_on.ensures.1 in
    rw (error.1, error.2, known.0, known.1) c.in_err-read_words.ensures.fault

pub returns-clause-version : goal.returns-clause-version
returns-clause-version c =
    let line = c.args.line.now in
    let words = ap plain c.deref.ensures.value ∙ c.in_ok-words.ensures in
    let same = ap plain c.deref-2.ensures.value ∙ c.in_ok-words.ensures in
    let going : is_ignored line ≡ false =
    sym (ap begins_comment words) ∙ sym c.begins_comment.ensures ∙ c.if-begins_comment.false in
    (known-version c.args.known line c.in-Some.version going
    (sym c.in-Some.is ∙ c.version_in.ensures ∙ ap (version_in c.args.known) same)).2

pub returns-clause-ok : goal.returns-clause-ok
returns-clause-ok c =
    let line = c.args.line.now in
    let words = ap plain c.deref.ensures.value ∙ c.in_ok-words.ensures in
    let same = ap plain c.deref-2.ensures.value ∙ c.in_ok-words.ensures in
    let going : is_ignored line ≡ false =
    sym (ap begins_comment words) ∙ sym c.begins_comment.ensures ∙ c.if-begins_comment.false in
    let known = known-version c.args.known line c.in-Some.version going
    (sym c.in-Some.is ∙ c.version_in.ensures ∙ ap (version_in c.args.known) same) in
    rw (known.0, known.1) c.in_ok-read_words.ensures.ok

-- What clap says of its own reading, at such a command line.
use Rattle.std.proofs.Common.{◌∙◌, ap}
use Rattle.std.proofs.lemmas.Result.{err_from_is_err_and}
use Rattle.phase_words.specs.RunLine.{run_by}
use Rattle.phase_words.proofs.run_line.parse.Goals as goal

pub returns-in_err-matches-clause-fails : goal.returns-in_err-matches-clause-fails
returns-in_err-matches-clause-fails c = λ app free is.
    let passed_on = c.from_residual in
    let error = err_from_is_err_and passed_on.result passed_on.ensures.1 in
    rw (error.1, error.2) (c.in_err-matches.ensures.fails app free is)

pub returns-clause-fails : goal.returns-clause-fails
returns-clause-fails c = λ app free is. c.in_ok-matches.ensures.fails app free is

pub returns-clause-call : goal.returns-clause-call
returns-clause-call c = λ app simple is.
    c.call_of.ensures ∙ ap run_by (c.in_ok-matches.ensures.found app simple is)

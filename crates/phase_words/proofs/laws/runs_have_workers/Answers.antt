-- What clap leaves of a word of another number is read as 4.
use Rattle.phase_words.proofs.Workers.{run-within}
use Rattle.phase_words.proofs.laws.runs_have_workers.Goals as goal

pub returns-clause-least : goal.returns-clause-least
returns-clause-least c = λ words name sink workers asks. (run-within words _ asks).0

pub returns-clause-most : goal.returns-clause-most
returns-clause-most c = λ words name sink workers asks. (run-within words _ asks).1

pub returns-clause-any : goal.returns-clause-any
returns-clause-any c = run-within

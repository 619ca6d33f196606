-- What clap says of the words, as plain data.
use Rattle.phase_words.specs.CommandLine.{texts}
use Rattle.phase_words.proofs.NoCalls.{told-no_call}
use Rattle.phase_words.proofs.command_line.read_words.Goals as goal

pub returns-in-Err-clause-no_call : goal.returns-in-Err-clause-no_call
returns-in-Err-clause-no_call c =
    told-no_call (texts c.args.words.now) c.in-Err.error c.no_call.result c.in-Err.ensures.fails c.no_call.ensures

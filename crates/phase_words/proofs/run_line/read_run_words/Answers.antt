-- What clap says of the words, as plain data.
use Rattle.std.proofs.Common.{sym}
use Rattle.phase_words.specs.CommandLine.{texts}
use Rattle.phase_words.specs.RunLine.{run_app, run_in, run_kinds_of}
use Rattle.phase_words.proofs.NoCalls.{told-none}
use Rattle.phase_words.proofs.Simple.{run_app-is_free, run_app-is_simple}
use Rattle.phase_words.proofs.run_line.read_run_words.Goals as goal

pub returns-in-Ok-clause-call : goal.returns-in-Ok-clause-call
unfolding run_kinds_of run_in
returns-in-Ok-clause-call c = record {
  taken = c.in-Ok.ensures.fails run_app run_app-is_free c.run_command.ensures;
  run = sym (c.in-Ok.ensures.call run_app run_app-is_simple c.run_command.ensures);
}

pub returns-in-Err-clause-no_call : goal.returns-in-Err-clause-no_call
unfolding run_kinds_of
returns-in-Err-clause-no_call c =
    told-none (run_kinds_of (texts c.args.words.now)) c.in-Err.error c.no_call.result
    (c.in-Err.ensures.fails run_app run_app-is_free c.run_command.ensures) c.no_call.ensures

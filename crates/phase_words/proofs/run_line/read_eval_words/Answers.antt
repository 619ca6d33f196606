-- What clap says of the words, as plain data.
use Rattle.std.proofs.Common.{sym}
use Rattle.phase_words.specs.CommandLine.{texts}
use Rattle.phase_words.specs.RunLine.{workers_app, workers_in, workers_kinds_of}
use Rattle.phase_words.proofs.NoCalls.{told-none}
use Rattle.phase_words.proofs.Simple.{workers_app-is_free, workers_app-is_simple}
use Rattle.phase_words.proofs.run_line.read_eval_words.Goals as goal

pub returns-in-Ok-clause-call : goal.returns-in-Ok-clause-call
unfolding workers_kinds_of workers_in
returns-in-Ok-clause-call c = record {
  taken = c.in-Ok.ensures.fails workers_app workers_app-is_free c.by_workers_command.ensures;
  run = sym (c.in-Ok.ensures.call workers_app workers_app-is_simple c.by_workers_command.ensures);
}

pub returns-in-Err-clause-no_call : goal.returns-in-Err-clause-no_call
unfolding workers_kinds_of
returns-in-Err-clause-no_call c =
    told-none (workers_kinds_of (texts c.args.words.now)) c.in-Err.error c.no_call.result
    (c.in-Err.ensures.fails workers_app workers_app-is_free c.by_workers_command.ensures) c.no_call.ensures

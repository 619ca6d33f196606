-- clap's reading, computed.
use Rattle.std.proofs.Common.{[], refl}
use Rattle.clap.proofs.OnLiterals.{clap_on_literals}
use Rattle.clap.specs.declared.error.kind.ErrorKind.TheVariants.{UnknownArgument}
use Rattle.phase_words.specs.CommandLine.{kinds_of, phase_app}
use Rattle.phase_words.specs.RunLine.{run_app, run_kinds_of, workers_app, workers_kinds_of}
use Rattle.phase_words.specs.StreamLine.{stream_app, stream_kinds_of}
use Rattle.phase_words.proofs.Refused.{refused}
use Rattle.phase_words.proofs.laws.words_for_version.Goals as goal

pub returns-clause-long : goal.returns-clause-long
unfolding kinds_of phase_app clap_on_literals
returns-clause-long c = refl

pub returns-clause-short : goal.returns-clause-short
unfolding kinds_of phase_app clap_on_literals
returns-clause-short c = refl

pub returns-clause-of_eval : goal.returns-clause-of_eval
unfolding kinds_of phase_app clap_on_literals
returns-clause-of_eval c = refused _ UnknownArgument [] refl refl

pub returns-clause-of_workers : goal.returns-clause-of_workers
unfolding workers_kinds_of workers_app clap_on_literals
returns-clause-of_workers c = refused _ UnknownArgument [] refl refl

pub returns-clause-of_run : goal.returns-clause-of_run
unfolding run_kinds_of run_app clap_on_literals
returns-clause-of_run c = refused _ UnknownArgument [] refl refl

pub returns-clause-of_stream : goal.returns-clause-of_stream
unfolding stream_kinds_of stream_app clap_on_literals
returns-clause-of_stream c = refused _ UnknownArgument [] refl refl

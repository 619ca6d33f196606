-- clap's reading, computed.
use Rattle.std.proofs.Common.{[], ◌∷◌, refl}
use Rattle.clap.proofs.OnLiterals.{clap_on_literals}
use Rattle.clap.specs.declared.error.kind.ErrorKind.TheVariants.{ArgumentConflict, UnknownArgument, ValueValidation}
use Rattle.phase_words.specs.CommandLine.{kinds_of, phase_app}
use Rattle.phase_words.specs.RunLine.{run_app, run_kinds_of}
use Rattle.phase_words.specs.StreamLine.{stream_app, stream_kinds_of}
use Rattle.phase_words.proofs.Refused.{refused}
use Rattle.phase_words.proofs.laws.words_refused_of_files_of_sinks.Goals as goal

pub returns-clause-no_file : goal.returns-clause-no_file
unfolding stream_kinds_of stream_app clap_on_literals
returns-clause-no_file c = refused _ ValueValidation [] refl refl

pub returns-clause-sink_twice : goal.returns-clause-sink_twice
unfolding stream_kinds_of stream_app clap_on_literals
returns-clause-sink_twice c = refused _ ArgumentConflict [] refl refl

pub returns-clause-sink_again : goal.returns-clause-sink_again
unfolding stream_kinds_of stream_app clap_on_literals
returns-clause-sink_again c = refused _ ArgumentConflict [] refl refl

pub returns-clause-file_twice : goal.returns-clause-file_twice
unfolding stream_kinds_of stream_app clap_on_literals
returns-clause-file_twice c = refused _ ArgumentConflict [] refl refl

pub returns-clause-output_twice : goal.returns-clause-output_twice
unfolding stream_kinds_of stream_app clap_on_literals
returns-clause-output_twice c = refused _ ArgumentConflict [] refl refl

pub returns-clause-eval : goal.returns-clause-eval
unfolding kinds_of phase_app clap_on_literals
returns-clause-eval c = refused _ UnknownArgument [] refl refl

pub returns-clause-run : goal.returns-clause-run
unfolding run_kinds_of run_app clap_on_literals
returns-clause-run c = refused _ UnknownArgument [] refl refl

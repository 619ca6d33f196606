-- clap's reading, computed.
use Rattle.std.proofs.Common.{[], ◌∷◌, refl}
use Rattle.clap.proofs.OnLiterals.{clap_on_literals}
use Rattle.clap.specs.declared.error.kind.ErrorKind.TheVariants.{ArgumentConflict, InvalidSubcommand, InvalidValue, MissingRequiredArgument, UnknownArgument}
use Rattle.phase_words.specs.CommandLine.{kinds_of, phase_app}
use Rattle.phase_words.specs.StreamLine.{stream_app, stream_kinds_of}
use Rattle.phase_words.proofs.Refused.{refused}
use Rattle.phase_words.proofs.laws.words_refused_of_streams.Goals as goal

pub returns-clause-no_word : goal.returns-clause-no_word
unfolding stream_kinds_of stream_app clap_on_literals
returns-clause-no_word c = refused _ MissingRequiredArgument [] refl refl

pub returns-clause-no_file : goal.returns-clause-no_file
unfolding stream_kinds_of stream_app clap_on_literals
returns-clause-no_file c = refused _ MissingRequiredArgument [] refl refl

pub returns-clause-two_files : goal.returns-clause-two_files
unfolding stream_kinds_of stream_app clap_on_literals
returns-clause-two_files c = refused _ UnknownArgument [] refl refl

pub returns-clause-no_sink : goal.returns-clause-no_sink
unfolding stream_kinds_of stream_app clap_on_literals
returns-clause-no_sink c = refused _ InvalidValue [] refl refl

pub returns-clause-two_sinks : goal.returns-clause-two_sinks
unfolding stream_kinds_of stream_app clap_on_literals
returns-clause-two_sinks c = refused _ ArgumentConflict [] refl refl

pub returns-clause-workers : goal.returns-clause-workers
unfolding stream_kinds_of stream_app clap_on_literals
returns-clause-workers c = refused _ UnknownArgument [] refl refl

pub returns-clause-elsewhere : goal.returns-clause-elsewhere
unfolding kinds_of phase_app clap_on_literals
returns-clause-elsewhere c = refused _ UnknownArgument (InvalidSubcommand ∷ []) refl refl

-- clap's reading, computed.
use Rattle.std.proofs.Common.{[], ◌∷◌, refl}
use Rattle.clap.proofs.OnLiterals.{clap_on_literals}
use Rattle.clap.specs.declared.error.kind.ErrorKind.TheVariants.{InvalidSubcommand, MissingRequiredArgument, UnknownArgument}
use Rattle.phase_words.specs.CommandLine.{kinds_of, phase_app}
use Rattle.phase_words.proofs.Refused.{refused}
use Rattle.phase_words.proofs.laws.words_refused.Goals as goal

pub returns-clause-command : goal.returns-clause-command
unfolding kinds_of phase_app clap_on_literals
returns-clause-command c = refused _ UnknownArgument (InvalidSubcommand ∷ []) refl refl

pub returns-clause-two_scripts : goal.returns-clause-two_scripts
unfolding kinds_of phase_app clap_on_literals
returns-clause-two_scripts c = refused _ UnknownArgument [] refl refl

pub returns-clause-flag : goal.returns-clause-flag
unfolding kinds_of phase_app clap_on_literals
returns-clause-flag c = refused _ UnknownArgument [] refl refl

pub returns-clause-empty : goal.returns-clause-empty
unfolding kinds_of phase_app clap_on_literals
returns-clause-empty c = refused _ UnknownArgument (InvalidSubcommand ∷ []) refl refl

pub returns-clause-run : goal.returns-clause-run
unfolding kinds_of phase_app clap_on_literals
returns-clause-run c = refused _ UnknownArgument (InvalidSubcommand ∷ []) refl refl

pub returns-clause-no_file : goal.returns-clause-no_file
unfolding kinds_of phase_app clap_on_literals
returns-clause-no_file c = refused _ MissingRequiredArgument [] refl refl

pub returns-clause-two_files : goal.returns-clause-two_files
unfolding kinds_of phase_app clap_on_literals
returns-clause-two_files c = refused _ UnknownArgument [] refl refl

pub returns-clause-sink_of_check : goal.returns-clause-sink_of_check
unfolding kinds_of phase_app clap_on_literals
returns-clause-sink_of_check c = refused _ UnknownArgument [] refl refl

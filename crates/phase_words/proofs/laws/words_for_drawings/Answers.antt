-- clap's reading, computed.
use Rattle.std.proofs.Common.{[], refl}
use Rattle.clap.proofs.OnLiterals.{clap_on_literals}
use Rattle.clap.specs.declared.error.kind.ErrorKind.TheVariants.{MissingRequiredArgument, UnknownArgument}
use Rattle.phase_words.specs.CommandLine.{asked_in, kinds_of, phase_app}
use Rattle.phase_words.proofs.Refused.{refused}
use Rattle.phase_words.proofs.laws.words_for_drawings.Goals as goal

pub returns-clause-draw : goal.returns-clause-draw
unfolding asked_in kinds_of phase_app clap_on_literals
returns-clause-draw c = record { taken = refl; command = refl }

pub returns-clause-path : goal.returns-clause-path
unfolding asked_in kinds_of phase_app clap_on_literals
returns-clause-path c = record { taken = refl; command = refl }

pub returns-clause-help : goal.returns-clause-help
unfolding kinds_of phase_app clap_on_literals
returns-clause-help c = refl

pub returns-clause-no_file : goal.returns-clause-no_file
unfolding kinds_of phase_app clap_on_literals
returns-clause-no_file c = refused _ MissingRequiredArgument [] refl refl

pub returns-clause-two_files : goal.returns-clause-two_files
unfolding kinds_of phase_app clap_on_literals
returns-clause-two_files c = refused _ UnknownArgument [] refl refl

pub returns-clause-sink : goal.returns-clause-sink
unfolding kinds_of phase_app clap_on_literals
returns-clause-sink c = refused _ UnknownArgument [] refl refl

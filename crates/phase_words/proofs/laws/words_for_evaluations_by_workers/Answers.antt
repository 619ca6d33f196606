-- clap's reading, computed.
use Rattle.std.proofs.Common.{[], refl}
use Rattle.clap.proofs.OnLiterals.{clap_on_literals}
use Rattle.clap.specs.declared.error.kind.ErrorKind.TheVariants.{ArgumentConflict, UnknownArgument, ValueValidation}
use Rattle.phase_words.specs.CommandLine.{asked_in, kinds_of, phase_app}
use Rattle.phase_words.proofs.Refused.{refused}
use Rattle.phase_words.proofs.laws.words_for_evaluations_by_workers.Goals as goal

pub returns-clause-all : goal.returns-clause-all
unfolding asked_in kinds_of phase_app clap_on_literals
returns-clause-all c = record { taken = refl; command = refl }

pub returns-clause-sink : goal.returns-clause-sink
unfolding asked_in kinds_of phase_app clap_on_literals
returns-clause-sink c = record { taken = refl; command = refl }

pub returns-clause-columns : goal.returns-clause-columns
unfolding kinds_of phase_app clap_on_literals
returns-clause-columns c = refused _ ArgumentConflict [] refl refl

pub returns-clause-none : goal.returns-clause-none
unfolding kinds_of phase_app clap_on_literals
returns-clause-none c = refused _ ValueValidation [] refl refl

pub returns-clause-check : goal.returns-clause-check
unfolding kinds_of phase_app clap_on_literals
returns-clause-check c = refused _ UnknownArgument [] refl refl

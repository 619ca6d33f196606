-- clap's reading, computed.
use Rattle.std.proofs.Common.{[], refl}
use Rattle.clap.proofs.OnLiterals.{clap_on_literals}
use Rattle.clap.specs.declared.error.kind.ErrorKind.TheVariants.{ArgumentConflict, UnknownArgument}
use Rattle.phase_words.specs.CommandLine.{asked_in, kinds_of, phase_app}
use Rattle.phase_words.specs.RunLine.{run_app, run_kinds_of}
use Rattle.phase_words.proofs.Refused.{refused}
use Rattle.phase_words.proofs.laws.words_for_columns.Goals as goal

pub returns-clause-columns : goal.returns-clause-columns
unfolding asked_in kinds_of phase_app clap_on_literals
returns-clause-columns c = record { taken = refl; command = refl }

pub returns-clause-first : goal.returns-clause-first
unfolding asked_in kinds_of phase_app clap_on_literals
returns-clause-first c = record { taken = refl; command = refl }

pub returns-clause-explain : goal.returns-clause-explain
unfolding asked_in kinds_of phase_app clap_on_literals
returns-clause-explain c = record { taken = refl; command = refl }

pub returns-clause-sink : goal.returns-clause-sink
unfolding kinds_of phase_app clap_on_literals
returns-clause-sink c = refused _ ArgumentConflict [] refl refl

pub returns-clause-sink_first : goal.returns-clause-sink_first
unfolding kinds_of phase_app clap_on_literals
returns-clause-sink_first c = refused _ ArgumentConflict [] refl refl

pub returns-clause-check : goal.returns-clause-check
unfolding kinds_of phase_app clap_on_literals
returns-clause-check c = refused _ UnknownArgument [] refl refl

pub returns-clause-run : goal.returns-clause-run
unfolding run_kinds_of run_app clap_on_literals
returns-clause-run c = refused _ UnknownArgument [] refl refl

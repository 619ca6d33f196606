-- clap's reading, computed.
use Rattle.std.proofs.Common.{[], refl}
use Rattle.clap.proofs.OnLiterals.{clap_on_literals}
use Rattle.clap.specs.declared.error.kind.ErrorKind.TheVariants.{InvalidValue, MissingRequiredArgument, UnknownArgument, ValueValidation}
use Rattle.phase_words.specs.RunLine.{run_app, run_kinds_of}
use Rattle.phase_words.proofs.Refused.{refused}
use Rattle.phase_words.proofs.laws.words_refused_of_runs.Goals as goal

pub returns-clause-seventeen : goal.returns-clause-seventeen
unfolding run_kinds_of run_app clap_on_literals
returns-clause-seventeen c = refused _ ValueValidation [] refl refl

pub returns-clause-zero : goal.returns-clause-zero
unfolding run_kinds_of run_app clap_on_literals
returns-clause-zero c = refused _ ValueValidation [] refl refl

pub returns-clause-minus : goal.returns-clause-minus
unfolding run_kinds_of run_app clap_on_literals
returns-clause-minus c = refused _ ValueValidation [] refl refl

pub returns-clause-no_number : goal.returns-clause-no_number
unfolding run_kinds_of run_app clap_on_literals
returns-clause-no_number c = refused _ ValueValidation [] refl refl

pub returns-clause-no_value : goal.returns-clause-no_value
unfolding run_kinds_of run_app clap_on_literals
returns-clause-no_value c = refused _ InvalidValue [] refl refl

pub returns-clause-no_word : goal.returns-clause-no_word
unfolding run_kinds_of run_app clap_on_literals
returns-clause-no_word c = refused _ MissingRequiredArgument [] refl refl

pub returns-clause-no_file : goal.returns-clause-no_file
unfolding run_kinds_of run_app clap_on_literals
returns-clause-no_file c = refused _ MissingRequiredArgument [] refl refl

pub returns-clause-two_files : goal.returns-clause-two_files
unfolding run_kinds_of run_app clap_on_literals
returns-clause-two_files c = refused _ UnknownArgument [] refl refl

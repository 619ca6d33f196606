-- clap's reading, computed.
use Rattle.std.proofs.Common.{[], refl}
use Rattle.clap.proofs.OnLiterals.{clap_on_literals}
use Rattle.clap.specs.declared.error.kind.ErrorKind.TheVariants.{UnknownArgument}
use Rattle.phase_words.specs.CommandLine.{asked_in, kinds_of, phase_app}
use Rattle.phase_words.specs.RunLine.{run_app, run_in, run_kinds_of}
use Rattle.phase_words.specs.StreamLine.{stream_app, stream_in, stream_kinds_of}
use Rattle.phase_words.proofs.Refused.{refused}
use Rattle.phase_words.proofs.laws.words_for_files_beside.Goals as goal

pub returns-clause-check : goal.returns-clause-check
unfolding asked_in kinds_of phase_app clap_on_literals
returns-clause-check c = record { taken = refl; command = refl }

pub returns-clause-eval : goal.returns-clause-eval
unfolding asked_in kinds_of phase_app clap_on_literals
returns-clause-eval c = record { taken = refl; command = refl }

pub returns-clause-columns : goal.returns-clause-columns
unfolding asked_in kinds_of phase_app clap_on_literals
returns-clause-columns c = record { taken = refl; command = refl }

pub returns-clause-run : goal.returns-clause-run
unfolding run_in run_kinds_of run_app clap_on_literals
returns-clause-run c = record { taken = refl; run = refl }

pub returns-clause-stream : goal.returns-clause-stream
unfolding stream_in stream_kinds_of stream_app clap_on_literals
returns-clause-stream c = record { taken = refl; stream = refl }

pub returns-clause-draw : goal.returns-clause-draw
unfolding kinds_of phase_app clap_on_literals
returns-clause-draw c = refused _ UnknownArgument [] refl refl

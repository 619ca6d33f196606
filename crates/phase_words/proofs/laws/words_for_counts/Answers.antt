-- clap's reading, computed.
use Rattle.std.proofs.Common.{[], refl}
use Rattle.clap.proofs.OnLiterals.{clap_on_literals}
use Rattle.clap.specs.declared.error.kind.ErrorKind.TheVariants.{ArgumentConflict, UnknownArgument}
use Rattle.phase_words.specs.RunLine.{run_app, run_in, run_kinds_of, workers_app, workers_kinds_of}
use Rattle.phase_words.specs.StreamLine.{stream_app, stream_kinds_of}
use Rattle.phase_words.proofs.Refused.{refused}
use Rattle.phase_words.proofs.laws.words_for_counts.Goals as goal

pub returns-clause-run : goal.returns-clause-run
unfolding run_in run_kinds_of run_app clap_on_literals
returns-clause-run c = record { taken = refl; run = refl }

pub returns-clause-twice : goal.returns-clause-twice
unfolding run_kinds_of run_app clap_on_literals
returns-clause-twice c = refused _ ArgumentConflict [] refl refl

pub returns-clause-eval : goal.returns-clause-eval
unfolding workers_kinds_of workers_app clap_on_literals
returns-clause-eval c = refused _ UnknownArgument [] refl refl

pub returns-clause-stream : goal.returns-clause-stream
unfolding stream_kinds_of stream_app clap_on_literals
returns-clause-stream c = refused _ UnknownArgument [] refl refl

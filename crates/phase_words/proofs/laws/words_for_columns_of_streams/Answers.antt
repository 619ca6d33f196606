-- clap's reading, computed.
use Rattle.std.proofs.Common.{[], refl}
use Rattle.clap.proofs.OnLiterals.{clap_on_literals}
use Rattle.clap.specs.declared.error.kind.ErrorKind.TheVariants.{ArgumentConflict}
use Rattle.phase_words.specs.StreamLine.{stream_app, stream_in, stream_kinds_of}
use Rattle.phase_words.proofs.Refused.{refused}
use Rattle.phase_words.proofs.laws.words_for_columns_of_streams.Goals as goal

pub returns-clause-columns : goal.returns-clause-columns
unfolding stream_in stream_kinds_of stream_app clap_on_literals
returns-clause-columns c = record { taken = refl; stream = refl }

pub returns-clause-explain : goal.returns-clause-explain
unfolding stream_in stream_kinds_of stream_app clap_on_literals
returns-clause-explain c = record { taken = refl; stream = refl }

pub returns-clause-sink : goal.returns-clause-sink
unfolding stream_kinds_of stream_app clap_on_literals
returns-clause-sink c = refused _ ArgumentConflict [] refl refl

pub returns-clause-file : goal.returns-clause-file
unfolding stream_kinds_of stream_app clap_on_literals
returns-clause-file c = refused _ ArgumentConflict [] refl refl

pub returns-clause-twice : goal.returns-clause-twice
unfolding stream_kinds_of stream_app clap_on_literals
returns-clause-twice c = refused _ ArgumentConflict [] refl refl

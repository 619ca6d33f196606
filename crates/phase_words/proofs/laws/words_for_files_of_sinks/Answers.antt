-- clap's reading, computed.
use Rattle.std.proofs.Common.{refl}
use Rattle.clap.proofs.OnLiterals.{clap_on_literals}
use Rattle.phase_words.specs.StreamLine.{stream_app, stream_in, stream_kinds_of}
use Rattle.phase_words.proofs.laws.words_for_files_of_sinks.Goals as goal

pub returns-clause-file : goal.returns-clause-file
unfolding stream_in stream_kinds_of stream_app clap_on_literals
returns-clause-file c = record { taken = refl; stream = refl }

pub returns-clause-files : goal.returns-clause-files
unfolding stream_in stream_kinds_of stream_app clap_on_literals
returns-clause-files c = record { taken = refl; stream = refl }

pub returns-clause-output : goal.returns-clause-output
unfolding stream_in stream_kinds_of stream_app clap_on_literals
returns-clause-output c = record { taken = refl; stream = refl }

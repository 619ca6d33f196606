-- clap's reading, computed.
use Rattle.std.proofs.Common.{refl}
use Rattle.clap.proofs.OnLiterals.{clap_on_literals}
use Rattle.phase_words.specs.StreamLine.{stream_app, stream_in, stream_kinds_of}
use Rattle.phase_words.proofs.laws.words_for_streams.Goals as goal

pub returns-clause-only : goal.returns-clause-only
unfolding stream_in stream_kinds_of stream_app clap_on_literals
returns-clause-only c = record { taken = refl; stream = refl }

pub returns-clause-path : goal.returns-clause-path
unfolding stream_in stream_kinds_of stream_app clap_on_literals
returns-clause-path c = record { taken = refl; stream = refl }

pub returns-clause-input : goal.returns-clause-input
unfolding stream_in stream_kinds_of stream_app clap_on_literals
returns-clause-input c = record { taken = refl; stream = refl }

pub returns-clause-sink : goal.returns-clause-sink
unfolding stream_in stream_kinds_of stream_app clap_on_literals
returns-clause-sink c = record { taken = refl; stream = refl }

pub returns-clause-sink_first : goal.returns-clause-sink_first
unfolding stream_in stream_kinds_of stream_app clap_on_literals
returns-clause-sink_first c = record { taken = refl; stream = refl }

pub returns-clause-help : goal.returns-clause-help
unfolding stream_kinds_of stream_app clap_on_literals
returns-clause-help c = refl

-- clap's reading, computed.
use Rattle.std.proofs.Common.{refl}
use Rattle.clap.proofs.OnLiterals.{clap_on_literals}
use Rattle.phase_words.specs.CommandLine.{asked_in, kinds_of, phase_app}
use Rattle.phase_words.proofs.laws.words_for_graphs.Goals as goal

pub returns-clause-check : goal.returns-clause-check
unfolding asked_in kinds_of phase_app clap_on_literals
returns-clause-check c = record { taken = refl; command = refl }

pub returns-clause-eval : goal.returns-clause-eval
unfolding asked_in kinds_of phase_app clap_on_literals
returns-clause-eval c = record { taken = refl; command = refl }

pub returns-clause-path : goal.returns-clause-path
unfolding asked_in kinds_of phase_app clap_on_literals
returns-clause-path c = record { taken = refl; command = refl }

pub returns-clause-sink : goal.returns-clause-sink
unfolding asked_in kinds_of phase_app clap_on_literals
returns-clause-sink c = record { taken = refl; command = refl }

pub returns-clause-sink_first : goal.returns-clause-sink_first
unfolding asked_in kinds_of phase_app clap_on_literals
returns-clause-sink_first c = record { taken = refl; command = refl }

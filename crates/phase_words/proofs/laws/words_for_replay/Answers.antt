-- clap's reading, computed.
use Rattle.std.proofs.Common.{refl}
use Rattle.clap.proofs.OnLiterals.{clap_on_literals}
use Rattle.phase_words.specs.CommandLine.{asked_in, kinds_of, phase_app}
use Rattle.phase_words.proofs.laws.words_for_replay.Goals as goal

pub returns-clause-none : goal.returns-clause-none
unfolding asked_in kinds_of phase_app clap_on_literals
returns-clause-none c = record { taken = refl; command = refl }

pub returns-clause-replay : goal.returns-clause-replay
unfolding asked_in kinds_of phase_app clap_on_literals
returns-clause-replay c = record { taken = refl; command = refl }

pub returns-clause-dash : goal.returns-clause-dash
unfolding asked_in kinds_of phase_app clap_on_literals
returns-clause-dash c = record { taken = refl; command = refl }

pub returns-clause-file : goal.returns-clause-file
unfolding asked_in kinds_of phase_app clap_on_literals
returns-clause-file c = record { taken = refl; command = refl }

pub returns-clause-strict : goal.returns-clause-strict
unfolding asked_in kinds_of phase_app clap_on_literals
returns-clause-strict c = record { taken = refl; command = refl }

pub returns-clause-strict_file : goal.returns-clause-strict_file
unfolding asked_in kinds_of phase_app clap_on_literals
returns-clause-strict_file c = record { taken = refl; command = refl }

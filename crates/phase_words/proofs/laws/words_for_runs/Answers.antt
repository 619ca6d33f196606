-- clap's reading, computed.
use Rattle.std.proofs.Common.{refl}
use Rattle.clap.proofs.OnLiterals.{clap_on_literals}
use Rattle.phase_words.specs.RunLine.{run_app, run_in, run_kinds_of}
use Rattle.phase_words.proofs.laws.words_for_runs.Goals as goal

pub returns-clause-run : goal.returns-clause-run
unfolding run_in run_kinds_of run_app clap_on_literals
returns-clause-run c = record { taken = refl; run = refl }

pub returns-clause-one : goal.returns-clause-one
unfolding run_in run_kinds_of run_app clap_on_literals
returns-clause-one c = record { taken = refl; run = refl }

pub returns-clause-most : goal.returns-clause-most
unfolding run_in run_kinds_of run_app clap_on_literals
returns-clause-most c = record { taken = refl; run = refl }

pub returns-clause-sink : goal.returns-clause-sink
unfolding run_in run_kinds_of run_app clap_on_literals
returns-clause-sink c = record { taken = refl; run = refl }

pub returns-clause-both : goal.returns-clause-both
unfolding run_in run_kinds_of run_app clap_on_literals
returns-clause-both c = record { taken = refl; run = refl }

pub returns-clause-help : goal.returns-clause-help
unfolding run_kinds_of run_app clap_on_literals
returns-clause-help c = refl

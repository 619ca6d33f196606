-- clap's reading, computed.
use Rattle.std.proofs.Common.{refl}
use Rattle.clap.proofs.OnLiterals.{clap_on_literals}
use Rattle.phase_words.specs.CommandLine.{kinds_of, phase_app}
use Rattle.phase_words.proofs.laws.words_for_help.Goals as goal

pub returns-clause-long : goal.returns-clause-long
unfolding kinds_of phase_app clap_on_literals
returns-clause-long c = refl

pub returns-clause-short : goal.returns-clause-short
unfolding kinds_of phase_app clap_on_literals
returns-clause-short c = refl

pub returns-clause-replay_long : goal.returns-clause-replay_long
unfolding kinds_of phase_app clap_on_literals
returns-clause-replay_long c = refl

pub returns-clause-replay_short : goal.returns-clause-replay_short
unfolding kinds_of phase_app clap_on_literals
returns-clause-replay_short c = refl

pub returns-clause-check_long : goal.returns-clause-check_long
unfolding kinds_of phase_app clap_on_literals
returns-clause-check_long c = refl

pub returns-clause-eval_short : goal.returns-clause-eval_short
unfolding kinds_of phase_app clap_on_literals
returns-clause-eval_short c = refl

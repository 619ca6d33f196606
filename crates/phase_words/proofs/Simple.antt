-- The programs' command lines are such as clap computes exactly: what it finds, and its faults.
use Rattle.std.proofs.Common.{◌≡◌, true, refl}
use Rattle.clap.specs.Words.{is_simple, is_simple_and_free}
use Rattle.clap.proofs.OnLiterals.{clap_on_literals}
use Rattle.phase_words.specs.CommandLine.{phase_app}
use Rattle.phase_words.specs.RunLine.{run_app, workers_app}
use Rattle.phase_words.specs.StreamLine.{stream_app}

pub phase_app-is_simple : is_simple phase_app ≡ true
unfolding phase_app clap_on_literals
phase_app-is_simple = refl

pub phase_app-is_free : is_simple_and_free phase_app ≡ true
unfolding phase_app clap_on_literals
phase_app-is_free = refl

pub run_app-is_simple : is_simple run_app ≡ true
unfolding run_app clap_on_literals
run_app-is_simple = refl

pub run_app-is_free : is_simple_and_free run_app ≡ true
unfolding run_app clap_on_literals
run_app-is_free = refl

pub workers_app-is_simple : is_simple workers_app ≡ true
unfolding workers_app clap_on_literals
workers_app-is_simple = refl

pub workers_app-is_free : is_simple_and_free workers_app ≡ true
unfolding workers_app clap_on_literals
workers_app-is_free = refl

pub stream_app-is_simple : is_simple stream_app ≡ true
unfolding stream_app clap_on_literals
stream_app-is_simple = refl

pub stream_app-is_free : is_simple_and_free stream_app ≡ true
unfolding stream_app clap_on_literals
stream_app-is_free = refl

-- How an error of clap is told, and what the command line is made of.
use Rattle.std.specs.Prelude.{◌≢◌, codes, ⊤}
use Rattle.clap.specs.Words.{App, new_app}
use Rattle.clap.specs.declared.error.kind.ErrorKind.{ErrorKind}
use Rattle.clap.specs.declared.error.kind.ErrorKind.TheVariants.{OutOfMemory}
use Rattle.phase_words.specs.CommandLine.{IsShown, without_own_name}
use Rattle.phase_words.specs.declared.call.NoCall.{NoCall}
use Rattle.phase_words.specs.declared.call.NoCall.TheVariants as no_call

-- how an error of this kind is told, with its text
abbrev pub IsToldBy : ErrorKind → NoCall → Type 0
IsToldBy kind (no_call.Shown text) = IsShown kind
IsToldBy kind (no_call.Refused text) = (IsShown kind → ⊥) × (kind ≢ OutOfMemory)
IsToldBy kind no_call.OutOfMemory = ⊤

-- the program with no word and no command
abbrev pub bare_app : App
bare_app = without_own_name (new_app (codes "phase"))

-- What a command of the program leaves alone.
use Rattle.std.specs.Prelude.{◌≡◌}
use Rattle.phase_words.specs.declared.call.Call.{Call}
use Rattle.phase_words.specs.declared.call.Call.TheVariants as call
use Rattle.watched_io.specs.declared.watched.Watched.{Watched}

-- what a call leaves alone: the files by a replay with none, and the input by what goes by a file
abbrev pub LeavesBy : {R F : Type 0} → Call → Watched R → Watched R → F → F → Type 0
LeavesBy call.Replay input rest closed files = files ≡ closed
LeavesBy (call.ReplayFile script strict) input rest closed files = rest ≡ input
LeavesBy (call.Check graph explain beside) input rest closed files = rest ≡ input
LeavesBy (call.Eval graph sink explain beside) input rest closed files = rest ≡ input
LeavesBy (call.Columns graph explain beside) input rest closed files = rest ≡ input
LeavesBy (call.Draw graph explain) input rest closed files = rest ≡ input

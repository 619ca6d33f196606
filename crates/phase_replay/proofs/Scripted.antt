-- One more line of a script.
use Rattle.std.proofs.Common.{◌≡◌, ℕ, List, [], ◌∷◌, ◌++◌, Option, Result, Ok, Err, refl, sym, subst}
use Rattle.std.specs.Prelude.{OnOk, OnErr}
use Rattle.std.specs.Global.{Global}
use Rattle.phase_script.specs.Commands.{WholeCommand}
use Rattle.phase_replay.specs.declared.any_phaser.AnyPhaser.{AnyPhaser}
use Rattle.phase_replay.specs.Scripts.{ScriptState, after_line, state_from, state_after, start, after_command}
use Rattle.phase_replay.specs.Session.{SessionState, session_of, MaybeStandsFor, SessionStands, IsSession}

pub state_from-push : (state : ScriptState) (lines : List (List ℕ)) (line : List ℕ)
    → state_from state (lines ++ line ∷ []) ≡ after_line (state_from state lines) line
state_from-push state [] line = refl
state_from-push state (first ∷ lines) line = state_from-push (after_line state first) lines line

-- what the lines of a script leave is what the last of them leaves of what the others leave
pub state_after_push : (lines : List (List ℕ)) (line : List ℕ)
    → state_after (lines ++ line ∷ []) ≡ after_line (state_after lines) line
state_after_push lines line = state_from-push start lines line

-- a session that has answered a command, or wanted memory, has come as far as some state
pub session_goes_on : {R E : Type 0} (old new : Option AnyPhaser) (r : Result R E) (command : WholeCommand)
    → OnOk r ((state : ScriptState) → MaybeStandsFor old state → MaybeStandsFor new (after_command state command))
    → OnErr r (new ≡ old) → IsSession old → IsSession new
session_goes_on old new (Ok reply) command after same is = (after_command is.0 command, after is.0 is.1)
session_goes_on old new (Err fault) command after same is =
    rw same is

-- a session has come as far as some state
pub session_stands : (alloc : Global) (phaser : Option AnyPhaser) (session : SessionState)
    → session_of alloc phaser ≡ session → IsSession phaser → (state : ScriptState) × SessionStands session state
unfolding SessionStands
session_stands alloc phaser session view is =
    (is.0, rw (← view) is.1)

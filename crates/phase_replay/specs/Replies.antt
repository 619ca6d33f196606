-- What a script is answered: the reply lines of its lines, one after the other.
use Rattle.std.specs.Prelude.{ℕ, List, [], ◌∷◌, ◌++◌}
use Rattle.phase_script.specs.Lines.{lines_of}
use Rattle.phase_replay.specs.Scripts.{ScriptState, start, reply_line_of, after_line}

-- the replies to the lines from a state on
unfoldable pub replies : ScriptState → List (List ℕ) → List ℕ
replies state [] = []
replies state (line ∷ lines) = reply_line_of state line ++ replies (after_line state line) lines

-- the replies to a script
unfoldable pub replies_of : List ℕ → List ℕ
replies_of script = replies start (lines_of script)

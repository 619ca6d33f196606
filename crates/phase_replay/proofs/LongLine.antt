-- A line longer than any line of the grammar.
use Rattle.std.proofs.Common.{◌≡◌, ℕ, ◌≤◌, List, length, codes, None, ap}
use Rattle.phase_script.specs.Commands.{command_of}
use Rattle.phase_script.specs.ReplyLines.{reply_text}
use Rattle.phase_replay.specs.Scripts.{ScriptState, reply_line_of, after_line, reply_of_line, after_by}
use Rattle.phase_script.proofs.Grammar.{long_none}

-- it is a bad line, and changes nothing
pub long_line : (state : ScriptState) (line : List ℕ) → 362 ≤ length line
    → (reply_line_of state line ≡ codes "bad line\n") × (after_line state line ≡ state)
unfolding reply_line_of after_line reply_text
long_line state line long =
    let none : command_of line ≡ None = long_none line long in
    (ap (λ c. reply_text (reply_of_line state c)) none, ap (λ c. after_by state c) none)

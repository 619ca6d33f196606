-- How a reader stops, how a refusal is told from its reply line, and the first line of a text.
use Rattle.std.specs.Prelude.{◌≡◌, ℕ, ◌<◌, ◌≤◌, ◌⊎◌, ◌==◌, ◌||◌, Bool, true, List, [], ◌∷◌, ◌++◌}
use Rattle.std.specs.Prelude.{get_or, length, take}
use Rattle.phase_script.specs.Lines.{lines_of}
use Rattle.watched_io.specs.States.{Gives, ReaderState}

-- a read failed, or it gave more bytes than were left to the script
pub record StopsReading (old new : ReaderState) (left most : ℕ) : Type 0 where
  pub piece : List ℕ
  pub gives : Gives old new piece
  pub short : length piece ≤ most
  pub why : (new.failed ≡ true) ⊎ (left < length piece)

-- the reply line begins with the letter of `no`, or of `bad line`, as no other does
abbrev pub begins_as_refusal : List ℕ → Bool
begins_as_refusal reply = (get_or reply 0 0 == 110) || (get_or reply 0 0 == 98)

-- the first line of the text, which so many of its bytes are, and to which no byte behind them
-- belongs
pub record IsFirstLine (text line : List ℕ) (used : ℕ) : Type 0 where
  pub some : 0 < used
  pub within : used ≤ length text
  pub alone : lines_of (take used text) ≡ line ∷ []
  pub whole : used < length text → (later : List ℕ)
      → lines_of (take used text ++ later) ≡ line ∷ lines_of later

-- The lines of a script: its pieces that end at an LF, and a last piece with none, if not empty.
use Rattle.std.specs.Prelude.{ℕ, ◌-◌, ◌==◌, if◌then◌else◌, List, [], ◌∷◌, ◌++◌, length, take, slice_index}
use Rattle.phase_base.specs.Lists.{without_cr}

-- a last piece is a line where it is not empty
abbrev pub last_line : List ℕ → List (List ℕ)
last_line [] = []
last_line (b ∷ bs) = without_cr (b ∷ bs) ∷ []

-- the lines of a script of which `prefix` has come since the last LF, and the bytes are to come
abbrev pub lines_after : List ℕ → List ℕ → List (List ℕ)
lines_after prefix [] = last_line prefix
lines_after prefix (b ∷ bs) = if b == 10
    then without_cr prefix ∷ lines_after [] bs
    else lines_after (prefix ++ b ∷ []) bs

-- the lines of a script, less their LF and one CR before it
unfoldable pub lines_of : List ℕ → List (List ℕ)
lines_of script = lines_after [] script

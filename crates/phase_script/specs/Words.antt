-- The words of a line, which stand between spaces.
use Rattle.std.specs.Prelude.{ℕ, ◌==◌, if◌then◌else◌, List, [], ◌∷◌, Option, Some, None}

-- the bytes before the first space, or all bytes where there is none
abbrev pub word : List ℕ → List ℕ
word [] = []
word (b ∷ bs) = if b == 32 then [] else b ∷ word bs

-- the bytes after the first space, where there is one
abbrev pub rest : List ℕ → Option (List ℕ)
rest [] = None
rest (b ∷ bs) = if b == 32 then Some bs else rest bs

-- words, the first of them longer by a byte in front
abbrev pub longer_by : ℕ → List (List ℕ) → List (List ℕ)
longer_by b [] = (b ∷ []) ∷ []
longer_by b (word ∷ words) = (b ∷ word) ∷ words

-- the words of a text, one more than it has spaces
abbrev pub words_of : List ℕ → List (List ℕ)
words_of [] = [] ∷ []
words_of (b ∷ bs) = if b == 32 then [] ∷ words_of bs else longer_by b (words_of bs)

-- The lines of a text, and the words of a line.
use Rattle.std.specs.Prelude.{ℕ, ◌==◌, ◌||◌, Bool, true, not, List, [], ◌∷◌, length, map, filter, slice_index}
use Rattle.std.specs.List.{slice_split, list_all}
use Rattle.phase_base.specs.Lists.{without_cr}
use Rattle.phase_base.specs.Words.{Word, is_word_byte}

-- whether a byte ends a line
abbrev pub is_line_feed : ℕ → Bool
is_line_feed b = b == 10

-- a space or a tab
abbrev pub is_blank : ℕ → Bool
is_blank b = (b == 32) || (b == 9)

-- the lines of a text, from the first on. What follows the last line feed is one more line: where
-- it is empty it has no words
abbrev pub lines_of : List ℕ → List (List ℕ)
lines_of text = map without_cr (slice_split is_line_feed text)

-- whether a list has nothing
abbrev pub is_empty : List ℕ → Bool
is_empty bytes = length bytes == 0

-- what stands between blanks
abbrev pub words_of_line : List ℕ → List Word
words_of_line line = filter (λ word. not (is_empty word)) (slice_split is_blank line)

-- a blank, or a byte of a word
abbrev pub is_printable : ℕ → Bool
is_printable b = is_blank b || is_word_byte b

-- whether each byte may stand on a line
abbrev pub are_printable : List ℕ → Bool
are_printable line = list_all is_printable line

-- whether there is no word, or the first begins with #
abbrev pub begins_comment : List Word → Bool
begins_comment [] = true
begins_comment (word ∷ words) = slice_index word 0 == 35

-- whether a line has no words, or is a comment
abbrev pub is_ignored : List ℕ → Bool
is_ignored line = begins_comment (words_of_line line)

-- Words, and which of them are names and files.
use Rattle.std.specs.Prelude.{ℕ, ◌==◌, ◌&&◌, ◌||◌, nat_le, not, Bool, List, length, slice_index, codes}
use Rattle.std.specs.Str.{bytes_eq}
use Rattle.std.specs.List.{list_all}
use Rattle.phase_base.specs.declared.word.TheConstants.{NAME_MAX, FILE_MAX}

-- the bytes of a word
abbrev pub Word : Type 0
Word = List ℕ

-- a byte of a word
abbrev pub is_word_byte : ℕ → Bool
is_word_byte b = nat_le 33 b && nat_le b 126

-- whether a byte is a digit
abbrev pub is_digit : ℕ → Bool
is_digit b = nat_le 48 b && nat_le b 57

-- whether a byte is a letter, capital or small
abbrev pub is_letter : ℕ → Bool
is_letter b = (nat_le 97 b && nat_le b 122) || (nat_le 65 b && nat_le b 90)

-- a byte of a name: a letter, a digit or `_`
abbrev pub is_name_byte : ℕ → Bool
is_name_byte b = is_letter b || is_digit b || (b == 95)

-- the first word of a line
abbrev pub is_kind_word : Word → Bool
is_kind_word word = bytes_eq word (codes "phaser") || bytes_eq word (codes "source")
    || bytes_eq word (codes "fir") || bytes_eq word (codes "split") || bytes_eq word (codes "join")
    || bytes_eq word (codes "peer") || bytes_eq word (codes "sink")

-- a word that says what the next one is
abbrev pub is_mark : Word → Bool
is_mark word = bytes_eq word (codes "by") || bytes_eq word (codes "at")
    || bytes_eq word (codes "until") || bytes_eq word (codes "shift")
    || bytes_eq word (codes "taps") || bytes_eq word (codes "mul")
    || bytes_eq word (codes "single")

-- 1 to 32 letters, digits and `_`, of which the first is a letter; no word of the grammar
abbrev pub is_name : Word → Bool
is_name word = not (length word == 0) && nat_le (length word) NAME_MAX
    && is_letter (slice_index word 0) && list_all is_name_byte word
    && not (is_kind_word word) && not (is_mark word)

-- 1 to 255 bytes of a word
abbrev pub is_file : Word → Bool
is_file word = not (length word == 0) && nat_le (length word) FILE_MAX
    && list_all is_word_byte word

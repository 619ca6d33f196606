-- Worked words, computed in the definitions.
use Rattle.std.proofs.Common.{◌≡◌, [], ◌∷◌, true, false, refl, codes, List}
use Rattle.std.specs.List.{list_all, list_any}
use Rattle.phase_base.specs.Words.{Word, is_name, is_file, is_word_byte}

-- the words of the grammar
abbrev reserved : List Word
reserved = codes "phaser" ∷ codes "source" ∷ codes "fir" ∷ codes "split" ∷ codes "join"
    ∷ codes "peer" ∷ codes "sink" ∷ codes "by" ∷ codes "at" ∷ codes "until" ∷ codes "shift"
    ∷ codes "taps" ∷ codes "mul" ∷ codes "single" ∷ []

-- none is a name
no_names : list_any is_name reserved ≡ false
no_names = refl

-- words beside them are
names : list_all is_name (codes "x_1" ∷ codes "Sink" ∷ codes "sinks" ∷ codes "sum" ∷ codes "neg" ∷ [])
    ≡ true
names = refl

-- one that begins with a digit or `_`, or has another byte, is none
others : list_any is_name (codes "1x" ∷ codes "_x" ∷ codes "a-b" ∷ codes "->" ∷ [] ∷ []) ≡ false
others = refl

-- 32 bytes are a name, and 33 are none
longest : is_name (codes "abcdefghijklmnopqrstuvwxyz012345") ≡ true
longest = refl

too_long : is_name (codes "abcdefghijklmnopqrstuvwxyz0123456") ≡ false
too_long = refl

-- the bytes of a word are those from 33 to 126
word_bytes : list_all is_word_byte (33 ∷ 126 ∷ []) ≡ true
word_bytes = refl

other_bytes : list_any is_word_byte (0 ∷ 9 ∷ 31 ∷ 32 ∷ 127 ∷ 128 ∷ 255 ∷ []) ≡ false
other_bytes = refl

-- a file may be any word
files : list_all is_file (codes "s.csv" ∷ codes "->" ∷ codes "sink" ∷ codes "!~" ∷ []) ≡ true
files = refl

-- but has no byte of no word
no_files : list_any is_file ((97 ∷ 127 ∷ []) ∷ (97 ∷ 32 ∷ 98 ∷ []) ∷ [] ∷ []) ≡ false
no_files = refl

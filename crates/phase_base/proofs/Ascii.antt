-- The bytes of names and files are text.
use Rattle.std.proofs.Common.{ℕ, zero, suc, ◌≡◌, ◌<◌, ◌==◌, ◌&&◌, not, List, [], ◌∷◌, length, get_or, arith, Bool, true, nat_le}
use Rattle.std.specs.List.{list_all}
use Rattle.std.specs.Str.{IsAscii, IsUtf8}
use Rattle.std.proofs.lemmas.Bool.{and_parts}
use Rattle.std.proofs.lemmas.Bool.Decides.{nat_tests}
use Rattle.std.proofs.lemmas.Str.{IsUtf8-from_ascii}
use Rattle.phase_base.specs.Words.{is_name, is_file, is_letter, is_name_byte, is_word_byte, is_kind_word, is_mark}

low_name : (b : ℕ) → is_name_byte b ≡ true → b < 128
low_name b h = grind (arith, nat_tests)

low_word : (b : ℕ) → is_word_byte b ≡ true → b < 128
low_word b h = grind (arith, nat_tests)

all_low : (test : ℕ → Bool) → ((b : ℕ) → test b ≡ true → b < 128) → (bs : List ℕ)
    → list_all test bs ≡ true → IsAscii bs
all_low test low [] h i = omega arith
all_low test low (b ∷ bs) h zero = low b (and_parts (test b) (list_all test bs) h).0
all_low test low (b ∷ bs) h (suc i) = all_low test low bs (and_parts (test b) (list_all test bs) h).1 i

-- a name is text
pub name_is_text : (w : List ℕ) → is_name w ≡ true → IsUtf8 w
name_is_text w h =
    let size = not (length w == 0) && nat_le (length w) 32 in
    let letter = is_letter (get_or w 0 0) in
    let bytes = list_all is_name_byte w in
    let plain = and_parts (size && letter && bytes && not (is_kind_word w)) (not (is_mark w)) h in
    let fronts = and_parts (size && letter && bytes) (not (is_kind_word w)) plain.0 in
    let each = and_parts (size && letter) bytes fronts.0 in
    IsUtf8-from_ascii w (all_low is_name_byte low_name w each.1)

-- a word that names a file is text
pub file_is_text : (w : List ℕ) → is_file w ≡ true → IsUtf8 w
file_is_text w h =
    let size = not (length w == 0) && nat_le (length w) 255 in
    IsUtf8-from_ascii w (all_low is_word_byte low_word w (and_parts size (list_all is_word_byte w) h).1)

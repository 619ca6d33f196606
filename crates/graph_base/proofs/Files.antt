-- The file that a reader lends.
use Rattle.std.proofs.Common.{ℕ, ◌≡◌, ◌<◌, ◌≤◌, ◌==◌, ◌&&◌, not, true, nat_le, List, [], ◌∙◌, length, get_or, ap, sym, subst, arith, leb-true, All, String, Global, string_bytes}
use Rattle.std.specs.List.{list_all}
use Rattle.std.proofs.lemmas.Bool.{and_parts}
use Rattle.std.proofs.lemmas.List.{get_or-map, length-map}
use Rattle.phase_base.specs.Words.{is_word_byte, is_file}
use Rattle.phase_base.specs.declared.word.TheConstants.{FILE_MAX}
use Rattle.graph_base.specs.Names.{files_of}

-- a file that is lent is one of the graph's
pub file-is : (files : List (String Global)) (source : ℕ) (file : String Global)
    → source < length (files_of files) → file ≡ get_or files source file
    → All (λ file. is_file file ≡ true) (files_of files) → is_file (string_bytes file) ≡ true
file-is files source file there e all =
    let Is : List ℕ → Type 0 = λ file. is_file file ≡ true in
    let below : source < length files = omega (arith, there, length-map files string_bytes) in
    let at : get_or (files_of files) source [] ≡ string_bytes file =
    get_or-map string_bytes files source file [] below ∙ ap string_bytes (sym e) in
    subst Is at (all source [] there)

-- a file of the grammar has few bytes
pub file-few : (word : List ℕ) → is_file word ≡ true → length word ≤ FILE_MAX
file-few word is =
    let some = not (length word == 0) in
    let size = some && nat_le (length word) FILE_MAX in
    let sized = and_parts size (list_all is_word_byte word) is in
    leb-true (length word) FILE_MAX (and_parts some (nat_le (length word) FILE_MAX) sized.0).1

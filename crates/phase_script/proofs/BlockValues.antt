-- The values of a block, read word by word.
use Rattle.std.proofs.Common.{Bor, MatchOption, ◌≡◌, ℕ, ◌≤◌, List, [], ◌∷◌, ◌++◌, length, ℤ, Option, Some, None, option_and_then, refl, sym, ◌∙◌, ap, arith, append_assoc, append-nil, length-append}
use Rattle.std.proofs.lemmas.Bool.{le-leb, lt-leb}
use Rattle.phase_script.specs.Numbers.{int_of}
use Rattle.phase_script.specs.Words.{word, rest, words_of}
use Rattle.phase_script.specs.Commands.{ints_of, few_values, values_of}
use Rattle.phase_script.proofs.Grammar.{words_at, words_behind}

-- numbers before others, if these are
abbrev pub put_before : List ℤ → Option (List ℤ) → Option (List ℤ)
put_before values None = None
put_before values (Some others) = Some (values ++ others)

-- the numbers of a text that is left, none where none is
abbrev pub left_of : Option (List ℕ) → Option (List ℤ)
left_of None = Some []
left_of (Some text) = ints_of (words_of text)

-- what is borrowed, as a text
abbrev pub texts_of : Option (Bor (List ℕ)) → Option (List ℕ)
texts_of None = None
texts_of (Some text) = Some text.now

-- what a cut leaves is the rest
pub rest_is : (o : Option (Bor (List ℕ))) (text : List ℕ) → MatchOption o (rest text ≡ None) (λ r. rest text ≡ Some r.now) → rest text ≡ texts_of o
rest_is None text e = e
rest_is (Some r) text e = e

-- nothing is left
pub none_left : (o : Option (Bor (List ℕ))) → ((text : Bor (List ℕ)) → o ≡ Some text → ⊥) → texts_of o ≡ None
none_left None never = refl
none_left (Some text) never = absurd (never text refl)

left_behind : (more : Option (List ℕ)) → left_of more ≡ ints_of (words_behind more)
unfolding ints_of
left_behind None = refl
left_behind (Some text) = refl

put-one : (values : List ℤ) (v : ℤ) (o : Option (List ℤ))
    → put_before values (option_and_then (λ others. Some (v ∷ others)) o) ≡ put_before (values ++ v ∷ []) o
put-one values v None = refl
put-one values v (Some others) = ap Some (sym (append_assoc values (v ∷ []) others))

first_of : (words : List ℕ) (o : Option ℤ) → int_of (word words) ≡ o
    → ints_of (words_of words) ≡ option_and_then (λ v. option_and_then (λ others. Some (v ∷ others)) (left_of (rest words))) o
unfolding ints_of
first_of words o is = rw (words_at words, is, left_behind (rest words)) refl

-- one more word is read
pub left_step : (values : List ℤ) (words : List ℕ) (v : ℤ) (more : Option (List ℕ)) → int_of (word words) ≡ Some v → rest words ≡ more
    → put_before values (left_of (Some words)) ≡ put_before (values ++ v ∷ []) (left_of more)
left_step values words v more is behind =
    ap (put_before values) (first_of words (Some v) is) ∙ put-one values v (left_of (rest words))
    ∙ ap (λ m. put_before (values ++ v ∷ []) (left_of m)) behind

-- a word is no number
pub left_bad : (text : List ℕ) (values : List ℤ) (words : List ℕ) → ints_of (words_of text) ≡ put_before values (left_of (Some words))
    → int_of (word words) ≡ None → values_of text ≡ None
unfolding values_of
left_bad text values words inv bad = rw (inv, first_of words None bad) refl

-- there is one word too many
too_many : (values : List ℤ) (o : Option ℤ) (p : Option (List ℤ)) → length values ≡ 16
    → option_and_then few_values (put_before values (option_and_then (λ v. option_and_then (λ others. Some (v ∷ others)) p) o)) ≡ None
unfolding few_values
too_many values None p full = refl
too_many values (Some v) None full = refl
too_many values (Some v) (Some others) full =
    rw (lt-leb (length (values ++ v ∷ others)) 16 (omega (arith, length-append values (v ∷ others)))) refl

pub left_full : (text : List ℕ) (values : List ℤ) (words : List ℕ) → ints_of (words_of text) ≡ put_before values (left_of (Some words))
    → length values ≡ 16 → values_of text ≡ None
unfolding values_of
left_full text values words inv full =
    rw (inv, first_of words (int_of (word words)) refl) (too_many values (int_of (word words)) (left_of (rest words)) full)

-- all words are read
pub left_none : (text : List ℕ) (values : List ℤ) → ints_of (words_of text) ≡ put_before values (left_of None)
    → length values ≤ 16 → values_of text ≡ Some values
unfolding values_of few_values
left_none text values inv few = rw (inv, append-nil values, le-leb (length values) 16 few) refl

-- Tests of each word of a line, and of each number of a list, one after another.
use Rattle.std.proofs.Common.{ℕ, suc, ◌≡◌, ◌<◌, ◌≤◌, ◌+◌, ◌&&◌, ◌||◌, List, [], ◌∷◌, ◌++◌, Bool, true, false, Bor, length, map, take, drop, get_or, refl, ap, sym, ◌∙◌, arith, drop-cons, is_some, if◌then◌else◌, Some, None}
use Rattle.std.specs.List.{list_all, list_any}
use Rattle.std.proofs.Math.Seq.{take-length}
use Rattle.std.proofs.lemmas.List.{drop_all, take_more, map-append}
use Rattle.std.proofs.lemmas.Bool.{and_parts}
use Rattle.phase_base.specs.Words.{Word}
use Rattle.graph_text.specs.Plain.{plain}

pub is_some-if : {A : Type 0} (b : Bool) (x : A) → is_some (if b then Some x else None) ≡ b
is_some-if true x = refl
is_some-if false x = refl

-- the items from i on are item i and those after it
pub cut : {A : Type 0} (xs : List A) (i : ℕ) (d : A) → i < length xs
    → drop i xs ≡ get_or xs i d ∷ drop (i + 1) xs
cut xs i d below =
    let next : suc i ≡ i + 1 = omega arith in
    drop-cons xs i d below ∙ ap (λ n. get_or xs i d ∷ drop n xs) next

-- the words from i on pass where word i passes, and those after it
pub words-next : (test : Word → Bool) (xs : List (Bor Word)) (i : ℕ) (d : Bor Word) → i < length xs
    → list_all test (plain (drop i xs))
    ≡ (test (get_or xs i d).now && list_all test (plain (drop (i + 1) xs)))
words-next test xs i d below = ap (λ xs. list_all test (plain xs)) (cut xs i d below)

pub words-stop : (test : Word → Bool) (xs : List (Bor Word)) (i : ℕ) (d : Bor Word) → i < length xs
    → test (get_or xs i d).now ≡ false → list_all test (plain (drop i xs)) ≡ false
words-stop test xs i d below stop = words-next test xs i d below
    ∙ ap (λ b. b && list_all test (plain (drop (i + 1) xs))) stop

pub words-pass : (test : Word → Bool) (xs : List (Bor Word)) (i : ℕ) (d : Bor Word) → i < length xs
    → test (get_or xs i d).now ≡ true
    → list_all test (plain (drop i xs)) ≡ list_all test (plain (drop (i + 1) xs))
words-pass test xs i d below pass = words-next test xs i d below
    ∙ ap (λ b. b && list_all test (plain (drop (i + 1) xs))) pass

pub words-end : (test : Word → Bool) (xs : List (Bor Word)) (i : ℕ) → length xs ≤ i
    → list_all test (plain (drop i xs)) ≡ true
words-end test xs i above = ap (λ xs. list_all test (plain xs)) (drop_all i xs above)

-- the words before i + 1 are those before i, and word i
pub words-more : {B : Type 0} (f : Word → B) (xs : List (Bor Word)) (i : ℕ) (d : Bor Word)
    → i < length xs → map f (plain (take (i + 1) xs))
    ≡ map f (plain (take i xs)) ++ f (get_or xs i d).now ∷ []
words-more f xs i d below = ap (λ xs. map f (plain xs)) (take_more xs i d below)
    ∙ ap (map f) (map-append (λ x. x.now) (take i xs) (get_or xs i d ∷ []))
    ∙ map-append f (plain (take i xs)) ((get_or xs i d).now ∷ [])

pub words-all : {B : Type 0} (f : Word → B) (xs : List (Bor Word)) (i : ℕ) → i ≡ length xs
    → map f (plain (take i xs)) ≡ map f (plain xs)
words-all f xs i e = ap (λ n. map f (plain (take n xs))) e ∙ ap (λ xs. map f (plain xs)) (take-length xs)

-- words that all pass: word i does, and so do those after it
pub words-first : (test : Word → Bool) (xs : List (Bor Word)) (i : ℕ) (d : Bor Word) → i < length xs
    → list_all test (plain (drop i xs)) ≡ true
    → (test (get_or xs i d).now ≡ true) × (list_all test (plain (drop (i + 1) xs)) ≡ true)
words-first test xs i d below all =
    and_parts (test (get_or xs i d).now) (list_all test (plain (drop (i + 1) xs)))
    (sym (words-next test xs i d below) ∙ all)

-- ---- some word passes

pub words-found : (test : Word → Bool) (xs : List (Bor Word)) (i : ℕ) (d : Bor Word) → i < length xs
    → test (get_or xs i d).now ≡ true → list_any test (plain (drop i xs)) ≡ true
words-found test xs i d below pass = ap (λ xs. list_any test (plain xs)) (cut xs i d below)
    ∙ ap (λ b. b || list_any test (plain (drop (i + 1) xs))) pass

pub words-missed : (test : Word → Bool) (xs : List (Bor Word)) (i : ℕ) (d : Bor Word) → i < length xs
    → test (get_or xs i d).now ≡ false
    → list_any test (plain (drop i xs)) ≡ list_any test (plain (drop (i + 1) xs))
words-missed test xs i d below stop = ap (λ xs. list_any test (plain xs)) (cut xs i d below)
    ∙ ap (λ b. b || list_any test (plain (drop (i + 1) xs))) stop

pub words-none : (test : Word → Bool) (xs : List (Bor Word)) (i : ℕ) → length xs ≤ i
    → list_any test (plain (drop i xs)) ≡ false
words-none test xs i above = ap (λ xs. list_any test (plain xs)) (drop_all i xs above)

-- How many words in front pass a test.
use Rattle.std.proofs.Common.{ℕ, suc, ◌≡◌, ◌==◌, ◌<◌, ◌≤◌, ◌+◌, List, [], ◌∷◌, Bool, true, false, Bor, length, take, drop, get_or, refl, ap, sym, ◌∙◌, arith, drop-cons, Some, None, ne_eqb}
use Rattle.std.specs.List.{take-map, drop-map, prefix_len}
use Rattle.std.proofs.lemmas.List.{drop_all}
use Rattle.phase_base.specs.Words.{Word}
use Rattle.graph_text.specs.Plain.{plain}
use Rattle.graph_text.specs.WordReading.{some_at}

-- ---- counted one by one

front-pass : (test : Word → Bool) (w : Word) (ws : List Word) → test w ≡ true
    → prefix_len test (w ∷ ws) ≡ suc (prefix_len test ws)
front-pass test w ws pass = rw pass (omega arith)

front-stop : (test : Word → Bool) (w : Word) (ws : List Word) → test w ≡ false
    → prefix_len test (w ∷ ws) ≡ 0
front-stop test w ws stop = rw stop refl

front-none : (test : Word → Bool) → prefix_len test [] ≡ 0
front-none test = refl

cut : (xs : List (Bor Word)) (i : ℕ) (d : Bor Word) → i < length xs
    → plain (drop i xs) ≡ (get_or xs i d).now ∷ plain (drop (i + 1) xs)
cut xs i d below =
    let next : suc i ≡ i + 1 = omega arith in
    ap plain (drop-cons xs i d below ∙ ap (λ n. get_or xs i d ∷ drop n xs) next)

-- one more passes
pub front-more : (test : Word → Bool) (xs : List (Bor Word)) (i : ℕ) (d : Bor Word)
    → i < length xs → test (get_or xs i d).now ≡ true
    → prefix_len test (plain (drop i xs)) ≡ suc (prefix_len test (plain (drop (i + 1) xs)))
front-more test xs i d below pass = rw (cut xs i d below)
    (front-pass test (get_or xs i d).now (plain (drop (i + 1) xs)) pass)

-- the next does not pass
pub front-ends : (test : Word → Bool) (xs : List (Bor Word)) (i : ℕ) (d : Bor Word)
    → i < length xs → test (get_or xs i d).now ≡ false
    → prefix_len test (plain (drop i xs)) ≡ 0
front-ends test xs i d below stop = rw (cut xs i d below)
    (front-stop test (get_or xs i d).now (plain (drop (i + 1) xs)) stop)

-- all pass
pub front-all : (test : Word → Bool) (xs : List (Bor Word)) (i : ℕ) → length xs ≤ i
    → prefix_len test (plain (drop i xs)) ≡ 0
front-all test xs i above = rw (drop_all i xs above) (front-none test)

-- ---- read

-- no word passes
pub some_at-none : (test : Word → Bool) (ws : List Word) → prefix_len test ws ≡ 0
    → some_at test ws ≡ None
unfolding some_at
some_at-none test ws none = rw none refl

-- the words that were split off in front
pub some_at-split : (test : Word → Bool) (xs : List (Bor Word)) (n : ℕ)
    → n ≡ prefix_len test (plain xs) → (n ≡ 0 → ⊥)
    → some_at test (plain xs) ≡ Some (plain (take n xs), plain (drop n xs))
unfolding some_at
some_at-split test xs n counted some =
    let there : (prefix_len test (plain xs) == 0) ≡ false = rw counted at (ne_eqb n 0 some) in
    let fronts : plain (take n xs) ≡ take (prefix_len test (plain xs)) (plain xs) =
    sym (take-map (λ x. x.now) n xs) ∙ ap (λ m. take m (plain xs)) counted in
    let behind : plain (drop n xs) ≡ drop (prefix_len test (plain xs)) (plain xs) =
    sym (drop-map (λ x. x.now) n xs) ∙ ap (λ m. drop m (plain xs)) counted in
    rw (there, fronts, behind) refl

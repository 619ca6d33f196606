-- The words among pieces, one piece after another.
use Rattle.std.proofs.Common.{ℕ, ◌≡◌, ◌<◌, ◌+◌, List, [], ◌∷◌, ◌++◌, not, Bor, length, map, filter, take, get_or, ap, ◌∙◌, cond, true, false, append-nil}
use Rattle.std.proofs.lemmas.List.{take_more, map-append}
use Rattle.std.proofs.lemmas.List.Elements.{filter-append}
use Rattle.graph_text.specs.Texts.{is_empty}

-- the pieces that are words
abbrev pub kept : List (Bor (List ℕ)) → List (List ℕ)
kept xs = filter (λ w. not (is_empty w)) (map (λ x. x.now) xs)

pub kept-more : (xs : List (Bor (List ℕ))) (i : ℕ) (d : Bor (List ℕ)) → i < length xs
    → kept (take (i + 1) xs) ≡ kept (take i xs) ++ kept (get_or xs i d ∷ [])
kept-more xs i d h = ap kept (take_more xs i d h) ∙ kept-append (take i xs) (get_or xs i d ∷ [])
  where
    kept-append : (a b : List (Bor (List ℕ))) → kept (a ++ b) ≡ kept a ++ kept b
    kept-append a b = ap (filter (λ w. not (is_empty w))) (map-append (λ x. x.now) a b)
        ∙ filter-append (λ w. not (is_empty w)) (map (λ x. x.now) a) (map (λ x. x.now) b)

-- a piece that is a word
pub kept-word : (xs : List (Bor (List ℕ))) (i : ℕ) (d : Bor (List ℕ)) → i < length xs
    → is_empty (get_or xs i d).now ≡ false
    → kept (take (i + 1) xs) ≡ kept (take i xs) ++ (get_or xs i d).now ∷ []
kept-word xs i d h e = kept-more xs i d h
    ∙ ap (λ b. kept (take i xs) ++ (cond (not b) ((get_or xs i d).now ∷ []) [])) e

-- a piece that is none
pub kept-none : (xs : List (Bor (List ℕ))) (i : ℕ) (d : Bor (List ℕ)) → i < length xs
    → is_empty (get_or xs i d).now ≡ true → kept (take (i + 1) xs) ≡ kept (take i xs)
kept-none xs i d h e = kept-more xs i d h
    ∙ ap (λ b. kept (take i xs) ++ (cond (not b) ((get_or xs i d).now ∷ []) [])) e
    ∙ append-nil (kept (take i xs))

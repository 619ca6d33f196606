-- Texts that grow by one item.
use Rattle.std.proofs.Common.{◌≡◌, ℕ, List, [], ◌∷◌, ◌++◌, map, take, drop, sym, ◌∙◌, ap, append_assoc, append-nil, take-append-drop}
use Rattle.std.specs.List.{flat_map}
use Rattle.std.proofs.lemmas.Grind.{flat_map-append}
use Rattle.std.proofs.lemmas.List.Concat.{flat_map-cons}
use Rattle.std.proofs.lemmas.List.{map-append, map_push}

-- one more item, behind a head
pub flat_map-push : {X : Type 0} (f : X → List ℕ) (head : List ℕ) (xs : List X) (x : X)
    → head ++ flat_map f (xs ++ x ∷ []) ≡ head ++ flat_map f xs ++ f x
flat_map-push f head xs x =
    ap (λ l. head ++ l) (flat_map-append f xs (x ∷ [])
    ∙ ap (λ l. flat_map f xs ++ l) (flat_map-cons f x [] ∙ append-nil (f x)))
    ∙ sym (append_assoc head (flat_map f xs) (f x))

-- the items behind the first n
pub flat_map-rest : {X : Type 0} (f : X → List ℕ) (head : List ℕ) (xs : List X) (n : ℕ)
    → head ++ flat_map f xs ≡ head ++ flat_map f (take n xs) ++ flat_map f (drop n xs)
flat_map-rest f head xs n =
    ap (λ l. head ++ l) (ap (flat_map f) (sym (take-append-drop n xs))
    ∙ flat_map-append f (take n xs) (drop n xs))
    ∙ sym (append_assoc head (flat_map f (take n xs)) (flat_map f (drop n xs)))

-- the same of items that are seen through a map
pub flat_map-map-push : {X Y : Type 0} (f : Y → List ℕ) (v : X → Y) (xs : List X) (x : X)
    → flat_map f (map v (xs ++ x ∷ [])) ≡ flat_map f (map v xs) ++ f (v x)
flat_map-map-push f v xs x =
    ap (flat_map f) (map_push v xs x) ∙ flat_map-push f [] (map v xs) (v x)

pub flat_map-map-rest : {X Y : Type 0} (f : Y → List ℕ) (v : X → Y) (xs : List X) (n : ℕ)
    → flat_map f (map v xs) ≡ flat_map f (map v (take n xs)) ++ flat_map f (map v (drop n xs))
flat_map-map-rest f v xs n =
    ap (λ ys. flat_map f (map v ys)) (sym (take-append-drop n xs))
    ∙ (ap (flat_map f) (map-append v (take n xs) (drop n xs))
    ∙ flat_map-append f (map v (take n xs)) (map v (drop n xs)))

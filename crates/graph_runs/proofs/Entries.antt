-- Lists that begin others.
use Rattle.std.proofs.Common.{◌≡◌, ℕ, zero, suc, ◌+◌, ◌<◌, ◌≤◌, List, [], ◌∷◌, ◌++◌, length, get_or, take, drop, refl, sym, ap, ◌∙◌, arith}
use mathlib.Core.List.{IsPrefix}
use Rattle.std.proofs.lemmas.List.{append-nil, length-append, get_or_append_left, take-append-le}

pub IsPrefix-refl : {X : Type 0} (xs : List X) → IsPrefix xs xs
IsPrefix-refl xs = ([], append-nil xs)

pub prefix_length : {X : Type 0} (xs ys : List X) → IsPrefix xs ys → length xs ≤ length ys
prefix_length xs ys a =
    omega (arith, sym (length-append xs a.0) ∙ ap length a.1)

-- the longer has the entries of the shorter
pub prefix_at : {X : Type 0} (xs ys : List X) (i : ℕ) (d : X) → IsPrefix xs ys → i < length xs
    → get_or ys i d ≡ get_or xs i d
prefix_at xs ys i d a lt = ap (λ l. get_or l i d) (sym a.1) ∙ get_or_append_left xs a.0 d i lt

-- a list that has its entries is longer
pub prefix_by : {X : Type 0} (xs ys : List X) (d : X) → length xs ≤ length ys
    → ((i : ℕ) → i < length xs → get_or ys i d ≡ get_or xs i d) → IsPrefix xs ys
prefix_by [] ys d le same = (ys, refl)
prefix_by (x ∷ xs) [] d le same = absurd (omega arith)
prefix_by (x ∷ xs) (y ∷ ys) d le same =
    let r = prefix_by xs ys d (omega arith) (λ i lt. same (suc i) (omega arith)) in
    let here : y ≡ x = same 0 (omega arith) in
    (r.0, ap (λ h. h ∷ (xs ++ r.0)) (sym here) ∙ ap (λ l. y ∷ l) r.1)

no_more : {X : Type 0} (l : List X) → length l ≡ 0 → l ≡ []
no_more [] e = refl
no_more (x ∷ l) e = absurd (omega arith)

-- and no longer list is none but itself
pub prefix_whole : {X : Type 0} (xs ys : List X) → IsPrefix xs ys → length ys ≤ length xs → xs ≡ ys
prefix_whole xs ys a le =
    let l : length xs + length a.0 ≡ length ys = sym (length-append xs a.0) ∙ ap length a.1 in
    let none : a.0 ≡ [] = no_more a.0 (omega arith) in
    sym (append-nil xs) ∙ ap (λ r. xs ++ r) (sym none) ∙ a.1

pub nothing_more : {X : Type 0} (xs rest ys : List X) → xs ++ rest ≡ ys → xs ≡ ys → rest ≡ []
nothing_more xs rest ys a b =
    no_more rest
    (let l : length xs + length rest ≡ length ys = sym (length-append xs rest) ∙ ap length a in
    let k : length xs ≡ length ys = ap length b in omega arith)

pub take_prefix : {X : Type 0} (a b : ℕ) (xs : List X) → a ≤ b → IsPrefix (take a xs) (take b xs)
take_prefix zero b xs le = (take b xs, refl)
take_prefix (suc a) zero xs le = absurd (omega arith)
take_prefix (suc a) (suc b) [] le = ([], refl)
take_prefix (suc a) (suc b) (x ∷ xs) le =
    let r = take_prefix a b xs (omega arith) in (r.0, ap (λ l. x ∷ l) r.1)

pub take_length : {X : Type 0} (a : ℕ) (xs : List X) → length (take a xs) ≤ a
take_length zero xs = omega arith
take_length (suc a) [] = omega arith
take_length (suc a) (x ∷ xs) = let r : length (take a xs) ≤ a = take_length a xs in omega arith

pub take_full : {X : Type 0} (n : ℕ) (xs : List X) → n ≤ length xs → length (take n xs) ≡ n
take_full zero xs le = refl
take_full (suc n) [] le = absurd (omega arith)
take_full (suc n) (x ∷ xs) le = ap (λ l. suc l) (take_full n xs (omega arith))

-- as many as the shorter has are the same of both
pub take_of_prefix : {X : Type 0} (n : ℕ) (xs ys : List X) → IsPrefix xs ys → n ≤ length xs
    → take n ys ≡ take n xs
take_of_prefix n xs ys a le = ap (λ l. take n l) (sym a.1) ∙ take-append-le n xs a.0 le

pub get_or-take : {X : Type 0} (xs : List X) (n i : ℕ) (d : X) → i < n
    → get_or (take n xs) i d ≡ get_or xs i d
get_or-take xs zero i d lt = absurd (omega arith)
get_or-take [] (suc n) i d lt = refl
get_or-take (x ∷ xs) (suc n) zero d lt = refl
get_or-take (x ∷ xs) (suc n) (suc i) d lt = get_or-take xs n i d (omega arith)

pub get_or-drop : {X : Type 0} (xs : List X) (n i : ℕ) (d : X)
    → get_or (drop n xs) i d ≡ get_or xs (n + i) d
get_or-drop xs zero i d = let same : i ≡ 0 + i = omega arith in ap (λ k. get_or xs k d) same
get_or-drop [] (suc n) i d = refl
get_or-drop (x ∷ xs) (suc n) i d =
    let same : suc (n + i) ≡ suc n + i = omega arith in
    get_or-drop xs n i d ∙ ap (λ k. get_or (x ∷ xs) k d) same

-- Lists that are built entry by entry, each from those before it: where an entry looks at those
-- before it alone, it is the same over the whole list.
use Rattle.std.proofs.Common.{◌≡◌, ℕ, zero, suc, ◌+◌, ◌<◌, ◌≤◌, List, [], ◌∷◌, ◌++◌, length, map, get_or, refl, sym, ap, ◌∙◌, arith, ◌⊎◌, inl, inr}
use Rattle.std.specs.Prelude.{Option}
use Rattle.std.specs.List.{range_with_len, fold, filter_map, cons_option}
use Rattle.std.proofs.lemmas.List.{length-append, get_or_append_left, get_or_push}
use Rattle.std.proofs.lemmas.Bool.{cases_lt}
use Rattle.stream_lists.proofs.Firsts.{fold-range_more}

-- n entries, entry number p made by f from those before it
abbrev pub grown : {X : Type 0} → (List X → ℕ → X) → ℕ → List X
grown f n = fold (λ above p. above ++ f above p ∷ []) [] (range_with_len 0 n)

grown-suc : {X : Type 0} (f : List X → ℕ → X) (n : ℕ)
    → grown f (suc n) ≡ grown f n ++ f (grown f n) n ∷ []
grown-suc f n =
    let next : suc n ≡ n + 1 = omega arith in
    ap (grown f) next ∙ fold-range_more (λ above p. above ++ f above p ∷ []) [] n

pub length-grown : {X : Type 0} (f : List X → ℕ → X) (n : ℕ) → length (grown f n) ≡ n
length-grown f zero = refl
length-grown f (suc n) =
    let before : length (grown f n) ≡ n = length-grown f n in
    let one : length (grown f n) + 1 ≡ suc n = omega arith in
    ap length (grown-suc f n) ∙ length-append (grown f n) (f (grown f n) n ∷ []) ∙ one

-- entry p is made from the p entries before it
pub grown-at : {X : Type 0} (f : List X → ℕ → X) (n p : ℕ) (d : X) → p < n
    → get_or (grown f n) p d ≡ f (grown f p) p
grown-at f zero p d below = absurd (omega arith)
grown-at f (suc n) p d below =
    ap (λ l. get_or l p d) (grown-suc f n)
    ∙ split (cases_lt p n) (λ less. grown-at f n p d less) (length-grown f n)
  where
    split : (p < n) ⊎ (n ≤ p) → (p < n → get_or (grown f n) p d ≡ f (grown f p) p)
        → length (grown f n) ≡ n
        → get_or (grown f n ++ f (grown f n) n ∷ []) p d ≡ f (grown f p) p
    split (inl less) before long =
        get_or_append_left (grown f n) (f (grown f n) n ∷ []) d p (omega arith) ∙ before less
    split (inr last) before long =
        let here : length (grown f n) ≡ p = omega arith in
        let at : n ≡ p = omega arith in
        get_or_push (grown f n) (f (grown f n) n) d p here ∙ ap (λ k. f (grown f k) k) at

-- two lists have the same entries below p
abbrev pub AreSameBelow : {X : Type 0} → X → ℕ → List X → List X → Type 0
AreSameBelow d p xs ys = (q : ℕ) → q < p → get_or xs q d ≡ get_or ys q d

-- the entries below p stay
pub grown-same : {X : Type 0} (f : List X → ℕ → X) (d : X) (p n : ℕ) → p ≤ n
    → AreSameBelow d p (grown f p) (grown f n)
grown-same f d p n few q less =
    grown-at f p q d less ∙ sym (grown-at f n q d (omega arith))

-- entry p over the whole list, where f looks at the entries below p alone
pub grown-whole : {X : Type 0} (f : List X → ℕ → X) (n p : ℕ) (d : X) → p < n
    → ((xs ys : List X) → AreSameBelow d p xs ys → f xs p ≡ f ys p)
    → get_or (grown f n) p d ≡ f (grown f n) p
grown-whole f n p d below looks =
    grown-at f n p d below
    ∙ looks (grown f p) (grown f n) (grown-same f d p n (omega arith))

-- ---- lists over the same numbers

pub map-same : {Y : Type 0} (f g : ℕ → Y) (a n : ℕ) → ((t : ℕ) → t < a + n → f t ≡ g t)
    → map f (range_with_len a n) ≡ map g (range_with_len a n)
map-same f g a zero same = refl
map-same f g a (suc n) same =
    ap (λ y. y ∷ map f (range_with_len (a + 1) n)) (same a (omega arith))
    ∙ ap (λ ys. g a ∷ ys) (map-same f g (a + 1) n (λ t less. same t (omega arith)))

pub filter_map-same : {Y : Type 0} (f g : ℕ → Option Y) (a n : ℕ)
    → ((t : ℕ) → t < a + n → f t ≡ g t)
    → filter_map f (range_with_len a n) ≡ filter_map g (range_with_len a n)
filter_map-same f g a zero same = refl
filter_map-same f g a (suc n) same =
    ap (λ o. cons_option o (filter_map f (range_with_len (a + 1) n))) (same a (omega arith))
    ∙ ap (λ ys. cons_option (g a) ys)
    (filter_map-same f g (a + 1) n (λ t less. same t (omega arith)))

pub map-each : {Y : Type 0} (f g : ℕ → Y) (xs : List ℕ)
    → ((k : ℕ) → k < length xs → f (get_or xs k 0) ≡ g (get_or xs k 0)) → map f xs ≡ map g xs
map-each f g [] same = refl
map-each f g (x ∷ xs) same =
    ap (λ y. y ∷ map f xs) (same 0 (omega arith))
    ∙ ap (λ ys. g x ∷ ys) (map-each f g xs (λ k less. same (suc k) (omega arith)))

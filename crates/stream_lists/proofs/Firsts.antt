-- The first of a list of options, from the front on.
use Rattle.std.proofs.Common.{◌≡◌, ℕ, zero, suc, ◌+◌, ◌-◌, ◌<◌, List, [], ◌∷◌, ◌++◌, length, map, Some, None, Bool, true, false, refl, sym, ap, ◌∙◌, arith, zero-add}
use Rattle.std.specs.Prelude.{Option, if◌then◌else◌}
use Rattle.std.specs.List.{range_with_len, fold, filter_map, cons_option, find, list_any, filter, position_from}
use Rattle.std.proofs.lemmas.List.Elements.{filter_map-append, filter-append}
use Rattle.std.proofs.lemmas.List.{append-nil}
use Rattle.std.proofs.lemmas.List.Sums.{fold-append}
use Rattle.std.proofs.lemmas.List.FromFn.{map-range_with_len_more}
use Rattle.stream_lists.specs.Ranges.{first_some}

-- one number more, and the rest
pub range_next : (i n : ℕ) → i < n → range_with_len i (n - i)
    ≡ i ∷ range_with_len (i + 1) (n - (i + 1))
range_next i n lt =
    let more : n - i ≡ suc (n - (i + 1)) = omega arith in
    ap (range_with_len i) more

-- nothing at place i
pub first-pass : {A : Type 0} (f : ℕ → Option A) (n i : ℕ) → i < n → f i ≡ None
    → first_some (map f (range_with_len i (n - i)))
    ≡ first_some (map f (range_with_len (i + 1) (n - (i + 1))))
first-pass f n i lt e = rw (range_next i n lt, e) refl

-- something at place i
pub first-here : {A : Type 0} (f : ℕ → Option A) (n i : ℕ) (a : A) → i < n → f i ≡ Some a
    → first_some (map f (range_with_len i (n - i))) ≡ Some a
first-here f n i a lt e = rw (range_next i n lt, e) refl

-- the numbers below n + 1
pub range_more : (a n : ℕ) → range_with_len a (n + 1) ≡ range_with_len a n ++ (a + n) ∷ []
range_more a zero = let same : a + 0 ≡ a = omega arith in ap (λ k. k ∷ []) (sym same)
range_more a (suc n) =
    let longer : suc n + 1 ≡ suc (n + 1) = omega arith in
    let last : a + 1 + n ≡ a + suc n = omega arith in
    ap (range_with_len a) longer
    ∙ ap (λ xs. a ∷ xs) (range_more (a + 1) n ∙ ap (λ k. range_with_len (a + 1) n ++ k ∷ []) last)

-- a fold over the numbers below n + 1
pub fold-range_more : {B : Type 0} (f : B → ℕ → B) (b : B) (n : ℕ)
    → fold f b (range_with_len 0 (n + 1)) ≡ f (fold f b (range_with_len 0 n)) n
fold-range_more f b n = ap (fold f b)
    (range_more 0 n ∙ ap (λ k. range_with_len 0 n ++ k ∷ []) (zero-add n))
    ∙ fold-append f b (range_with_len 0 n) (n ∷ [])

-- a fold over what stands at the numbers below n + 1
pub fold-map_more : {A B : Type 0} (f : B → A → B) (b : B) (g : ℕ → A) (n : ℕ)
    → fold f b (map g (range_with_len 0 (n + 1))) ≡ f (fold f b (map g (range_with_len 0 n))) (g n)
fold-map_more f b g n =
    ap (fold f b) (map-range_with_len_more g 0 n n (zero-add n))
    ∙ fold-append f b (map g (range_with_len 0 n)) (g n ∷ [])

-- ---- what a test picks of the numbers below n + 1

pub filter_map-skip : {B : Type 0} (h : ℕ → Option B) (n : ℕ) → h n ≡ None
    → filter_map h (range_with_len 0 (n + 1)) ≡ filter_map h (range_with_len 0 n)
filter_map-skip h n e =
    ap (filter_map h) (range_more 0 n ∙ ap (λ k. range_with_len 0 n ++ k ∷ []) (zero-add n))
    ∙ (filter_map-append h (range_with_len 0 n) (n ∷ [])
    ∙ (ap (λ o. filter_map h (range_with_len 0 n) ++ cons_option o []) e
    ∙ append-nil (filter_map h (range_with_len 0 n))))

pub filter_map-take : {B : Type 0} (h : ℕ → Option B) (n : ℕ) (b : B) → h n ≡ Some b
    → filter_map h (range_with_len 0 (n + 1)) ≡ filter_map h (range_with_len 0 n) ++ b ∷ []
filter_map-take h n b e =
    ap (filter_map h) (range_more 0 n ∙ ap (λ k. range_with_len 0 n ++ k ∷ []) (zero-add n))
    ∙ (filter_map-append h (range_with_len 0 n) (n ∷ [])
    ∙ ap (λ o. filter_map h (range_with_len 0 n) ++ cons_option o []) e)

-- ---- the first of two lists

pub first-append_some : {A : Type 0} (os ys : List (Option A)) (a : A) → first_some os ≡ Some a
    → first_some (os ++ ys) ≡ Some a
first-append_some [] ys a e = absurd (none_some e)
  where
    none_some : None ≡ Some a → ⊥
    none_some e = grind (arith, e)
first-append_some (None ∷ os) ys a e = first-append_some os ys a e
first-append_some (Some b ∷ os) ys a e = e

pub first-append_none : {A : Type 0} (os ys : List (Option A)) → first_some os ≡ None
    → first_some (os ++ ys) ≡ first_some ys
first-append_none [] ys e = refl
first-append_none (None ∷ os) ys e = first-append_none os ys e
first-append_none (Some b ∷ os) ys e = grind (arith, e)

-- ---- the first number that passes

pub find-pass : (t : ℕ → Bool) (m i : ℕ) → i < m → t i ≡ false → find t (range_with_len i (m - i))
    ≡ find t (range_with_len (i + 1) (m - (i + 1)))
find-pass t m i lt e = rw (range_next i m lt, e) refl

pub find-here : (t : ℕ → Bool) (m i : ℕ) → i < m → t i ≡ true → find t (range_with_len i (m - i))
    ≡ Some i
find-here t m i lt e = rw (range_next i m lt, e) refl

pub any-pass : (t : ℕ → Bool) (m i : ℕ) → i < m → t i ≡ false
    → list_any t (range_with_len i (m - i)) ≡ list_any t (range_with_len (i + 1) (m - (i + 1)))
any-pass t m i lt e = rw (range_next i m lt, e) refl

pub any-here : (t : ℕ → Bool) (m i : ℕ) → i < m → t i ≡ true
    → list_any t (range_with_len i (m - i)) ≡ true
any-here t m i lt e = rw (range_next i m lt, e) refl

pub filter-skip : (t : ℕ → Bool) (n : ℕ) → t n ≡ false → filter t (range_with_len 0 (n + 1))
    ≡ filter t (range_with_len 0 n)
filter-skip t n e =
    ap (filter t) (range_more 0 n ∙ ap (λ k. range_with_len 0 n ++ k ∷ []) (zero-add n))
    ∙ (filter-append t (range_with_len 0 n) (n ∷ [])
    ∙ rw e (append-nil (filter t (range_with_len 0 n))))

pub filter-take : (t : ℕ → Bool) (n : ℕ) → t n ≡ true → filter t (range_with_len 0 (n + 1))
    ≡ filter t (range_with_len 0 n) ++ n ∷ []
filter-take t n e =
    ap (filter t) (range_more 0 n ∙ ap (λ k. range_with_len 0 n ++ k ∷ []) (zero-add n))
    ∙ (filter-append t (range_with_len 0 n) (n ∷ []) ∙ rw e refl)

-- the first place at which a test passes is one of the list
pub position_from-below : {X : Type 0} (t : X → Bool) (n : ℕ) (xs : List X) (j : ℕ)
    → position_from t n xs ≡ Some j → j < n + length xs
position_from-below t n [] j e = grind (arith, e)
position_from-below t n (x ∷ xs) j e = by (position_from-below t (n + 1) xs j) (t x) e
  where
    by : (position_from t (n + 1) xs ≡ Some j → j < n + 1 + length xs)
        → (b : Bool) → (if b then Some n else position_from t (n + 1) xs) ≡ Some j
        → j < n + suc (length xs)
    by further true e = let same : n ≡ j = grind (arith, e) in omega arith
    by further false e = let below = further e in omega arith

-- Among numbers of which no two are the same, one is as far below a limit as there are numbers, or
-- one is not below it.
use Rattle.std.proofs.Common.{◌≡◌, ℕ, zero, suc, ◌+◌, ◌-◌, ◌<◌, ◌≤◌, Bool, true, false, not, List, [], ◌∷◌, ◌++◌, length, get_or, refl, sym, ap, ◌∙◌, arith, ◌⊎◌, inl, inr, eqb}
use Rattle.std.specs.Prelude.{nat_lt, if◌then◌else◌}
use Rattle.std.specs.List.{list_any}
use Rattle.std.proofs.lemmas.Bool.{cases_lt, cases_eq, and_parts, or_parts, not-true, eqb-false}
use Rattle.std.proofs.lemmas.Bool.Decides.{nat_tests}
use Rattle.phase_base.specs.Lists.{is_distinct}

-- 1 where x is below b, else 0
abbrev is_below : ℕ → ℕ → ℕ
is_below x b = if nat_lt x b then 1 else 0

-- how many of the numbers are below b
abbrev below : ℕ → List ℕ → ℕ
below b [] = 0
below b (x ∷ xs) = is_below x b + below b xs

is_below-yes : (x b : ℕ) → x < b → is_below x b ≡ 1
is_below-yes x b lt = let test : nat_lt x b ≡ true = grind (arith, nat_tests, lt) in rw test refl

is_below-no : (x b : ℕ) → b ≤ x → is_below x b ≡ 0
is_below-no x b le = let test : nat_lt x b ≡ false = grind (arith, nat_tests, le) in rw test refl

is_below-next : (x b : ℕ) → (x ≡ b → ⊥) → is_below x (suc b) ≡ is_below x b
is_below-next x b other = by (cases_lt x b)
  where
    by : (x < b) ⊎ (b ≤ x) → is_below x (suc b) ≡ is_below x b
    by (inl lt) = is_below-yes x (suc b) (omega arith) ∙ sym (is_below-yes x b lt)
    by (inr le) =
        let more : suc b ≤ x = split (cases_lt b x) in
        is_below-no x (suc b) more ∙ sym (is_below-no x b le)
      where
        split : (b < x) ⊎ (x ≤ b) → suc b ≤ x
        split (inl lt) = omega arith
        split (inr few) = absurd (other (omega arith))

is_below-mono : (x a b : ℕ) → a ≤ b → is_below x a ≤ is_below x b
is_below-mono x a b le = by (cases_lt x a)
  where
    by : (x < a) ⊎ (a ≤ x) → is_below x a ≤ is_below x b
    by (inl lt) =
        let one = is_below-yes x a lt in
        let two = is_below-yes x b (omega arith) in omega arith
    by (inr far) = let one = is_below-no x a far in omega arith

below-mono : (a b : ℕ) (xs : List ℕ) → a ≤ b → below a xs ≤ below b xs
below-mono a b [] le = omega arith
below-mono a b (x ∷ xs) le =
    omega (arith, is_below-mono x a b le, below-mono a b xs le)

-- a number that is not among them adds none
below-none : (b : ℕ) (xs : List ℕ) → list_any (λ q. eqb q b) xs ≡ false
    → below (suc b) xs ≡ below b xs
below-none b [] e = refl
below-none b (x ∷ xs) e =
    let parts = or_parts (eqb x b) (list_any (λ q. eqb q b) xs) e in
    omega (arith, is_below-next x b (eqb-false x b parts.0), below-none b xs parts.1)

-- one that is among them adds one
below-next : (b : ℕ) (xs : List ℕ) → is_distinct xs ≡ true → below (suc b) xs ≤ below b xs + 1
below-next b [] e = omega arith
below-next b (x ∷ xs) e =
    let parts = and_parts (not (list_any (λ q. eqb q x) xs)) (is_distinct xs) e in
    by (cases_eq x b) (not-true (list_any (λ q. eqb q x) xs) parts.0) (below-next b xs parts.1)
  where
    by : (x ≡ b) ⊎ (x ≡ b → ⊥) → list_any (λ q. eqb q x) xs ≡ false
        → below (suc b) xs ≤ below b xs + 1
        → below (suc b) (x ∷ xs) ≤ below b (x ∷ xs) + 1
    by (inl same) out rest =
        let one = is_below-yes x (suc b) (omega arith) in
        let none = below-none b xs (ap (λ y. list_any (λ q. eqb q y) xs) (sym same) ∙ out) in
        omega arith
    by (inr other) out rest = let here = is_below-next x b other in omega arith

below-climb : (d low : ℕ) (xs : List ℕ) → is_distinct xs ≡ true
    → below (low + d) xs ≤ below low xs + d
below-climb zero low xs e =
    let same : low + 0 ≡ low = omega arith in
    let here : below (low + 0) xs ≡ below low xs = ap (λ b. below b xs) same in omega arith
below-climb (suc d) low xs e =
    let same : low + suc d ≡ suc (low + d) = omega arith in
    let here : below (low + suc d) xs ≡ below (suc (low + d)) xs = ap (λ b. below b xs) same in
    omega (arith, below-next (low + d) xs e, below-climb d low xs e)

-- one of them has none below it
least : (xs : List ℕ) → 0 < length xs
    → (k : ℕ) × (k < length xs) × (below (get_or xs k 0) xs ≡ 0)
least [] some = absurd (omega arith)
least (x ∷ []) some =
    let none = is_below-no x x (omega arith) in
    let all : below x (x ∷ []) ≡ 0 = omega arith in (0, omega arith, all)
least (x ∷ y ∷ ys) some = by (least (y ∷ ys) (omega arith))
  where
    by : (k : ℕ) × (k < length (y ∷ ys)) × (below (get_or (y ∷ ys) k 0) (y ∷ ys) ≡ 0)
        → (k : ℕ) × (k < length (x ∷ y ∷ ys))
        × (below (get_or (x ∷ y ∷ ys) k 0) (x ∷ y ∷ ys) ≡ 0)
    by (k, lt, none) = split (cases_lt (get_or (y ∷ ys) k 0) x)
      where
        split : (get_or (y ∷ ys) k 0 < x) ⊎ (x ≤ get_or (y ∷ ys) k 0)
            → (k : ℕ) × (k < length (x ∷ y ∷ ys))
            × (below (get_or (x ∷ y ∷ ys) k 0) (x ∷ y ∷ ys) ≡ 0)
        split (inl less) =
            let v = get_or (y ∷ ys) k 0 in
            let here : is_below x v ≡ 0 = is_below-no x v (omega arith) in
            let all : is_below x v + below v (y ∷ ys) ≡ 0 = omega arith in
            (suc k, omega arith, all)
        split (inr few) =
            let here : is_below x x ≡ 0 = is_below-no x x (omega arith) in
            let rest : below x (y ∷ ys) ≤ below (get_or (y ∷ ys) k 0) (y ∷ ys) =
            below-mono x (get_or (y ∷ ys) k 0) (y ∷ ys) few in
            let all : is_below x x + below x (y ∷ ys) ≡ 0 = omega arith in
            (0, omega arith, all)

-- one of them is not below n, or all are
past : (n : ℕ) (xs : List ℕ)
    → ((k : ℕ) × (k < length xs) × (n ≤ get_or xs k 0)) ⊎ (below n xs ≡ length xs)
past n [] = inr refl
past n (x ∷ xs) = by (cases_lt x n) (past n xs)
  where
    by : (x < n) ⊎ (n ≤ x)
        → ((k : ℕ) × (k < length xs) × (n ≤ get_or xs k 0)) ⊎ (below n xs ≡ length xs)
        → ((k : ℕ) × (k < length (x ∷ xs)) × (n ≤ get_or (x ∷ xs) k 0))
        ⊎ (below n (x ∷ xs) ≡ length (x ∷ xs))
    by (inr far) rest = inl (0, omega arith, far)
    by (inl lt) (inl (k, few, far)) = inl (suc k, omega arith, far)
    by (inl lt) (inr all) =
        let here = is_below-yes x n lt in
        let whole : is_below x n + below n xs ≡ suc (length xs) = omega arith in inr whole

pub far_one : (n : ℕ) (xs : List ℕ) → 0 < length xs → is_distinct xs ≡ true
    → (k : ℕ) × (k < length xs) × ((n ≤ get_or xs k 0) ⊎ (get_or xs k 0 + length xs ≤ n))
far_one n xs some e = by (past n xs) (least xs some)
  where
    by : ((k : ℕ) × (k < length xs) × (n ≤ get_or xs k 0)) ⊎ (below n xs ≡ length xs)
        → (k : ℕ) × (k < length xs) × (below (get_or xs k 0) xs ≡ 0)
        → (k : ℕ) × (k < length xs) × ((n ≤ get_or xs k 0) ⊎ (get_or xs k 0 + length xs ≤ n))
    by (inl (k, lt, far)) found = (k, lt, inl far)
    by (inr all) (k, lt, none) = (k, lt, split (cases_lt (get_or xs k 0) n))
      where
        split : (get_or xs k 0 < n) ⊎ (n ≤ get_or xs k 0)
            → (n ≤ get_or xs k 0) ⊎ (get_or xs k 0 + length xs ≤ n)
        split (inr far) = inl far
        split (inl less) =
            let v = get_or xs k 0 in
            let same : v + (n - v) ≡ n = omega arith in
            let climbed = below-climb (n - v) v xs e in
            let whole : below (v + (n - v)) xs ≡ below n xs = ap (λ b. below b xs) same in
            let fits : v + length xs ≤ n = omega arith in inr fits

-- the front of such a list is one too
pub distinct_front : (xs ys : List ℕ) → is_distinct (xs ++ ys) ≡ true → is_distinct xs ≡ true
distinct_front [] ys e = refl
distinct_front (x ∷ xs) ys e =
    let parts = and_parts (not (list_any (λ q. eqb q x) (xs ++ ys))) (is_distinct (xs ++ ys)) e in
    let out = front_none (λ q. eqb q x) xs ys
    (not-true (list_any (λ q. eqb q x) (xs ++ ys)) parts.0) in
    rw (out, distinct_front xs ys parts.1) refl
  where
    front_none : (test : ℕ → Bool) (xs ys : List ℕ) → list_any test (xs ++ ys) ≡ false
        → list_any test xs ≡ false
    front_none test [] ys f = refl
    front_none test (z ∷ zs) ys f =
        let parts = or_parts (test z) (list_any test (zs ++ ys)) f in
        rw (parts.0, front_none test zs ys parts.1) refl

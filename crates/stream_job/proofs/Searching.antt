-- Searches through the first numbers.
use Rattle.std.proofs.Common.{◌≡◌, ℕ, zero, suc, refl, [], ◌∷◌, List, ◌&&◌, ◌||◌, ◌<◌, Bool, true, false, length, get_or, ap, ◌∙◌, arith}
use Rattle.std.specs.List.{list_any, list_all, range_with_len}
use Rattle.std.proofs.lemmas.List.Folds.{list_any_at}
use Rattle.std.proofs.Math.Bool.{and-false}
use Rattle.std.proofs.lemmas.List.FromFn.{get_or-range_with_len, length-range_with_len}

at-is : (n i : ℕ) → i < n → get_or (range_with_len 0 n) i 0 ≡ i
at-is n i lt =
    omega (arith, get_or-range_with_len 0 n i 0 lt)

-- ---- whether some number passes a test, or each does

pub any_in_range : (test : ℕ → Bool) (n c : ℕ) → c < n → test c ≡ true
    → list_any test (range_with_len 0 n) ≡ true
any_in_range test n c lt here =
    let long : length (range_with_len 0 n) ≡ n = length-range_with_len 0 n in
    list_any_at test (range_with_len 0 n) c 0 (omega arith) (ap test (at-is n c lt) ∙ here)

pub none_in_range : (test : ℕ → Bool) (n : ℕ) → ((d : ℕ) → d < n → test d ≡ false)
    → list_any test (range_with_len 0 n) ≡ false
none_in_range test n below = none test (range_with_len 0 n) each
  where
    each : (i : ℕ) → i < length (range_with_len 0 n) → test (get_or (range_with_len 0 n) i 0) ≡ false
    each i lt =
        let long : length (range_with_len 0 n) ≡ n = length-range_with_len 0 n in
        ap test (at-is n i (omega arith)) ∙ below i (omega arith)

    none : (p : ℕ → Bool) (xs : List ℕ)
        → ((i : ℕ) → i < length xs → p (get_or xs i 0) ≡ false) → list_any p xs ≡ false
    none p [] f = refl
    none p (x ∷ xs) f =
        ap (λ b. b || list_any p xs) (f 0 (omega arith)) ∙ none p xs (λ i lt. f (suc i) (omega arith))

pub all_in_range : (test : ℕ → Bool) (n : ℕ) → ((d : ℕ) → d < n → test d ≡ true)
    → list_all test (range_with_len 0 n) ≡ true
all_in_range test n below = all test (range_with_len 0 n) each
  where
    each : (i : ℕ) → i < length (range_with_len 0 n) → test (get_or (range_with_len 0 n) i 0) ≡ true
    each i lt =
        let long : length (range_with_len 0 n) ≡ n = length-range_with_len 0 n in
        ap test (at-is n i (omega arith)) ∙ below i (omega arith)

    all : (p : ℕ → Bool) (xs : List ℕ)
        → ((i : ℕ) → i < length xs → p (get_or xs i 0) ≡ true) → list_all p xs ≡ true
    all p [] f = refl
    all p (x ∷ xs) f =
        ap (λ b. b && list_all p xs) (f 0 (omega arith)) ∙ all p xs (λ i lt. f (suc i) (omega arith))

pub not_all_in_range : (test : ℕ → Bool) (n c : ℕ) → c < n → test c ≡ false
    → list_all test (range_with_len 0 n) ≡ false
not_all_in_range test n c lt here =
    let long : length (range_with_len 0 n) ≡ n = length-range_with_len 0 n in
    one test (range_with_len 0 n) c (omega arith) (ap test (at-is n c lt) ∙ here)
  where
    one : (p : ℕ → Bool) (xs : List ℕ) (i : ℕ) → i < length xs → p (get_or xs i 0) ≡ false
        → list_all p xs ≡ false
    one p [] i lt e = absurd (omega arith)
    one p (x ∷ xs) zero lt e = ap (λ b. b && list_all p xs) e
    one p (x ∷ xs) (suc i) lt e =
        ap (λ b. p x && b) (one p xs i (omega arith) e) ∙ and-false (p x)

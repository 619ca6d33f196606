-- The first of a list that passes a test: where none does, and where it stands.
use Rattle.std.proofs.Common.{◌≡◌, ℕ, zero, suc, ◌+◌, ◌<◌, Bool, true, false, cond, List, [], ◌∷◌, Some, None, length, get_or, refl, arith}
use Rattle.std.specs.List.{All, position_from}
use Rattle.std.proofs.lemmas.Option.{same_Some}

-- where none is found, none passes
pub none_found : {X : Type 0} (test : X → Bool) (from : ℕ) (xs : List X)
    → position_from test from xs ≡ None → All (λ x. test x ≡ false) xs
none_found test from [] e k d lt = absurd (omega arith)
none_found test from (x ∷ xs) e k d lt =
    by (test x) refl e k lt (λ rest i less. none_found test (from + 1) xs rest i d less)
  where
    by : (b : Bool) → test x ≡ b → cond b (Some from) (position_from test (from + 1) xs) ≡ None
        → (k : ℕ) → k < length (x ∷ xs)
        → (position_from test (from + 1) xs ≡ None → (i : ℕ) → i < length xs
        → test (get_or xs i d) ≡ false)
        → test (get_or (x ∷ xs) k d) ≡ false
    by true is e k lt later = absurd (cc)
    by false is e zero lt later = is
    by false is e (suc i) lt later = later e i (omega arith)

-- where all fail, none is found
pub all_fail : {X : Type 0} (test : X → Bool) (from : ℕ) (xs : List X) (d : X)
    → ((k : ℕ) → k < length xs → test (get_or xs k d) ≡ false)
    → position_from test from xs ≡ None
all_fail test from [] d none = refl
all_fail test from (x ∷ xs) d none =
    let here : test x ≡ false = none 0 (omega arith) in
    rw here (all_fail test (from + 1) xs d (λ k lt. none (suc k) (omega arith)))

-- the place of the one that is found
pub record FoundAt {X : Type 0} (test : X → Bool) (from : ℕ) (xs : List X) (at : ℕ) : Type 0 where
  pub index : ℕ
  pub is : at ≡ from + index
  pub few : index < length xs
  pub passes : (d : X) → test (get_or xs index d) ≡ true

pub found_at : {X : Type 0} (test : X → Bool) (from : ℕ) (xs : List X) (at : ℕ)
    → position_from test from xs ≡ Some at → FoundAt test from xs at
found_at test from [] at e = absurd (cc)
found_at test from (x ∷ xs) at e =
    by (test x) refl e (λ rest. found_at test (from + 1) xs at rest)
  where
    by : (b : Bool) → test x ≡ b
        → cond b (Some from) (position_from test (from + 1) xs) ≡ Some at
        → (position_from test (from + 1) xs ≡ Some at → FoundAt test (from + 1) xs at)
        → FoundAt test from (x ∷ xs) at
    by true is e later =
        let same : from ≡ at = same_Some from at e in
        record { index = 0; is = omega arith; few = omega arith; passes = λ d. is }
    by false is e later =
        let f = later e in
        let at_is : at ≡ from + 1 + f.index = f.is in
        let less : f.index < length xs = f.few in
        record { index = suc f.index; is = omega arith; few = omega arith; passes = f.passes }

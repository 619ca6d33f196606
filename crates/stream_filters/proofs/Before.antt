-- The numbers before the first one out of range.
use Rattle.std.proofs.Common.{◌≡◌, ◌≢◌, ℕ, suc, ◌<◌, ◌≤◌, List, [], ◌∷◌, ◌++◌, length, get_or, map, ℤ, pos, Bool, true, false, Ok, refl, sym, ap, ◌∙◌, arith}
use Rattle.std.specs.Prelude.{not, cond}
use Rattle.std.specs.List.{prefix_len}
use Rattle.std.proofs.lemmas.List.{length-take}
use Rattle.std.proofs.lemmas.List.Sums.{take_while-cons}
use Rattle.stream_filters.specs.Range.{before_out_of_range, is_out_of_range, ranged}
use Rattle.stream_filters.proofs.Made.{ranged-fits, ranged-ok}

-- a number is in range
abbrev fits : ℤ → Bool
fits z = not (is_out_of_range z)

pub before-cons : (z : ℤ) (zs : List ℤ) (b : Bool) → fits z ≡ b
    → before_out_of_range (z ∷ zs) ≡ cond b (z ∷ before_out_of_range zs) []
before-cons z zs b e =
    take_while-cons fits z zs ∙ ap (λ t. cond t (z ∷ before_out_of_range zs) []) e

pub before-few : (zs : List ℤ) → length (before_out_of_range zs) ≤ length zs
before-few zs = omega (arith, length-take (prefix_len fits zs) zs)

-- where all are in range, those that come behind count too
pub before-all : (zs ws : List ℤ) → length (before_out_of_range zs) ≡ length zs
    → before_out_of_range (zs ++ ws) ≡ before_out_of_range zs ++ before_out_of_range ws
before-all [] ws e = refl
before-all (z ∷ zs) ws e = by (before-all zs ws) (fits z) refl
  where
    by : (length (before_out_of_range zs) ≡ length zs
        → before_out_of_range (zs ++ ws) ≡ before_out_of_range zs ++ before_out_of_range ws)
        → (b : Bool) → fits z ≡ b
        → before_out_of_range (z ∷ zs ++ ws) ≡ before_out_of_range (z ∷ zs) ++ before_out_of_range ws
    by rest true f =
        let long : suc (length (before_out_of_range zs)) ≡ suc (length zs) =
        sym (ap length (before-cons z zs true f)) ∙ e in
        before-cons z (zs ++ ws) true f
        ∙ (ap (λ l. z ∷ l) (rest (omega arith))
        ∙ ap (λ l. l ++ before_out_of_range ws) (sym (before-cons z zs true f)))
    by rest false f =
        let short : 0 ≡ suc (length zs) = sym (ap length (before-cons z zs false f)) ∙ e in
        absurd (omega arith)

-- where one is not, they do not
pub before-some : (zs ws : List ℤ) → length (before_out_of_range zs) ≢ length zs
    → before_out_of_range (zs ++ ws) ≡ before_out_of_range zs
before-some [] ws less = absurd (less refl)
before-some (z ∷ zs) ws less = by (before-some zs ws) (fits z) refl
  where
    by : (length (before_out_of_range zs) ≢ length zs → before_out_of_range (zs ++ ws) ≡ before_out_of_range zs)
        → (b : Bool) → fits z ≡ b → before_out_of_range (z ∷ zs ++ ws) ≡ before_out_of_range (z ∷ zs)
    by rest true f =
        before-cons z (zs ++ ws) true f
        ∙ (ap (λ l. z ∷ l)
        (rest (λ e. less (ap length (before-cons z zs true f) ∙ ap suc e)))
        ∙ sym (before-cons z zs true f))
    by rest false f = before-cons z (zs ++ ws) false f ∙ sym (before-cons z zs false f)

-- where all are in range, each is its own answer
pub ranged-all : (zs : List ℤ) → length (before_out_of_range zs) ≡ length zs
    → map ranged zs ≡ map (λ z. Ok z) (before_out_of_range zs)
ranged-all [] e = refl
ranged-all (z ∷ zs) e = by (ranged-all zs) (fits z) refl
  where
    by : (length (before_out_of_range zs) ≡ length zs
        → map ranged zs ≡ map (λ z. Ok z) (before_out_of_range zs))
        → (b : Bool) → fits z ≡ b
        → map ranged (z ∷ zs) ≡ map (λ z. Ok z) (before_out_of_range (z ∷ zs))
    by rest true f =
        let long : suc (length (before_out_of_range zs)) ≡ suc (length zs) =
        sym (ap length (before-cons z zs true f)) ∙ e in
        ap (λ r. r ∷ map ranged zs) (ranged-fits z f)
        ∙ (ap (λ l. Ok z ∷ l) (rest (omega arith))
        ∙ ap (map (λ x. Ok x)) (sym (before-cons z zs true f)))
    by rest false f =
        let short : 0 ≡ suc (length zs) = sym (ap length (before-cons z zs false f)) ∙ e in
        absurd (omega arith)

-- these numbers are in range
pub before-ranged : (zs ys : List ℤ) → length zs ≡ length ys
    → ((k : ℕ) → k < length ys → ranged (get_or zs k (pos 0)) ≡ Ok (get_or ys k (pos 0)))
    → before_out_of_range zs ≡ ys
before-ranged [] [] long each = refl
before-ranged [] (y ∷ ys) long each = absurd (omega arith)
before-ranged (z ∷ zs) [] long each = absurd (omega arith)
before-ranged (z ∷ zs) (y ∷ ys) long each =
    let first = ranged-ok z y (each 0 (omega arith)) in
    before-cons z zs true (ap not first.1)
    ∙ (ap (λ x. x ∷ before_out_of_range zs) first.0
    ∙ ap (λ l. y ∷ l) (before-ranged zs ys (omega arith) (λ k lt. each (suc k) (omega arith))))

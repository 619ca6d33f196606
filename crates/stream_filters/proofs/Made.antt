-- A list that is made value by value, each of which is checked.
use Rattle.std.proofs.Common.{◌≡◌, ℕ, suc, ◌+◌, ◌<◌, ◌≤◌, List, [], ◌∷◌, ◌++◌, length, get_or, take, drop, ℤ, pos, Bool, true, false, Some, None, Ok, Err, refl, sym, ap, subst, ◌∙◌, append-nil, append_assoc, arith}
use Rattle.std.specs.Prelude.{Result, unsigned_abs, nat_le, not, if◌then◌else◌}
use Rattle.std.specs.List.{position_from}
use Rattle.std.proofs.lemmas.List.{take_more, take_all}
use Rattle.std.proofs.Math.Seq.{drop-cons}
use Rattle.std.proofs.Math.ListN.{drop_of_length-le}
use Rattle.stream_filters.specs.FilterFields.{MadeSoFar}
use Rattle.stream_filters.specs.Range.{ranged, is_out_of_range}
use Rattle.stream_filters.specs.declared.fault.TooBigValue.{TooBigValue}

-- a place where the test fails is passed over
pub position-pass : {X : Type 0} (t : X → Bool) (n : ℕ) (xs : List X) (i : ℕ) (d : X)
    → i < length xs → t (get_or xs i d) ≡ false
    → position_from t n (drop i xs) ≡ position_from t (n + 1) (drop (i + 1) xs)
position-pass t n xs i d lt e =
    let next : suc i ≡ i + 1 = omega arith in
    rw (drop-cons xs i d lt, e) (ap (λ m. position_from t (n + 1) (drop m xs)) next)

-- a place where it passes is the first
pub position-here : {X : Type 0} (t : X → Bool) (n : ℕ) (xs : List X) (i : ℕ) (d : X)
    → i < length xs → t (get_or xs i d) ≡ true → position_from t n (drop i xs) ≡ Some n
position-here t n xs i d lt e = rw (drop-cons xs i d lt, e) refl

-- the range check, by the test that it makes
abbrev checked : Bool → ℤ → Result ℤ TooBigValue
checked b z = if b then Ok z else Err (record {})

by_ok : (b : Bool) (z y : ℤ) → checked b z ≡ Ok y → (z ≡ y) × (not b ≡ false)
by_ok true z y e = (grind (arith, e), refl)
by_ok false z y e = grind (arith, e)

by_err : (b : Bool) (z : ℤ) (f : TooBigValue) → checked b z ≡ Err f → not b ≡ true
by_err true z f e = grind (arith, e)
by_err false z f e = refl

pub ranged-ok : (z y : ℤ) → ranged z ≡ Ok y → (z ≡ y) × (is_out_of_range z ≡ false)
ranged-ok z y e = by_ok (nat_le (unsigned_abs z) 9223372036854775807) z y e

pub ranged-err : (z : ℤ) (f : TooBigValue) → ranged z ≡ Err f → is_out_of_range z ≡ true
ranged-err z f e = by_err (nat_le (unsigned_abs z) 9223372036854775807) z f e

by_fits : (b : Bool) (z : ℤ) → not (not b) ≡ true → checked b z ≡ Ok z
by_fits true z e = refl
by_fits false z e = absurd (let wrong : false ≡ true = e in cc)

pub ranged-fits : (z : ℤ) → not (is_out_of_range z) ≡ true → ranged z ≡ Ok z
ranged-fits z e = by_fits (nat_le (unsigned_abs z) 9223372036854775807) z e

-- one more value is in range
pub MadeSoFar-more : (whole list : List ℤ) (n : ℕ) (y : ℤ)
    → MadeSoFar whole list n → n < length whole → ranged (get_or whole n (pos 0)) ≡ Ok y
    → MadeSoFar whole (list ++ y ∷ []) (n + 1)
MadeSoFar-more whole list n y made lt answer =
    let told = ranged-ok (get_or whole n (pos 0)) y answer in
    record {
      list_is = ap (λ xs. xs ++ y ∷ []) made.list_is
          ∙ (ap (λ v. take n whole ++ v ∷ []) (sym told.0) ∙ sym (take_more whole n (pos 0) lt));
      none_yet = made.none_yet ∙ position-pass is_out_of_range n whole n (pos 0) lt told.1;
    }

-- so are more
pub MadeSoFar-append : (whole list ys : List ℤ) (n : ℕ) → MadeSoFar whole list n
    → n + length ys ≤ length whole
    → ((k : ℕ) → k < length ys → ranged (get_or whole (n + k) (pos 0)) ≡ Ok (get_or ys k (pos 0)))
    → MadeSoFar whole (list ++ ys) (n + length ys)
MadeSoFar-append whole list [] n made le each =
    let none : n ≡ n + 0 = omega arith in
    subst (λ m. MadeSoFar whole (list ++ []) m) none (subst (λ l. MadeSoFar whole l n) (sym
    (append-nil list)) made)
MadeSoFar-append whole list (y ∷ ys) n made le each =
    let here : n + 0 ≡ n = omega arith in
    let first = ap (λ m. ranged (get_or whole m (pos 0))) (sym here) ∙ each 0 (omega arith) in
    let one = MadeSoFar-more whole list n y made (omega arith) first in
    let rest = MadeSoFar-append whole (list ++ y ∷ []) ys (n + 1) one (omega arith) (λ k lt.
    let next : n + 1 + k ≡ n + suc k = omega arith in
    ap (λ m. ranged (get_or whole m (pos 0))) next ∙ each (suc k) (omega arith)) in
    let count : n + 1 + length ys ≡ n + suc (length ys) = omega arith in
    subst (λ m. MadeSoFar whole (list ++ y ∷ ys) m) count
    (subst (λ l. MadeSoFar whole l (n + 1 + length ys)) (append_assoc list (y ∷ []) ys) rest)

-- the next value is the first that is out of range
pub MadeSoFar-fault : (whole list : List ℤ) (n : ℕ) (f : TooBigValue)
    → MadeSoFar whole list n → n < length whole → ranged (get_or whole n (pos 0)) ≡ Err f
    → position_from is_out_of_range 0 whole ≡ Some n
MadeSoFar-fault whole list n f made lt answer =
    made.none_yet
    ∙ position-here is_out_of_range n whole n (pos 0) lt
    (ranged-err (get_or whole n (pos 0)) f answer)

-- all values are made
pub MadeSoFar-all : (whole list : List ℤ) (n : ℕ) → MadeSoFar whole list n → length whole ≤ n
    → (list ≡ whole) × (position_from is_out_of_range 0 whole ≡ None)
MadeSoFar-all whole list n made long =
    (made.list_is ∙ take_all n whole long, made.none_yet ∙ rw (drop_of_length-le whole long) refl)

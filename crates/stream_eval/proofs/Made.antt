-- A list that is made value by value, each of which is checked.
use Rattle.std.proofs.Common.{◌≡◌, ℕ, zero, suc, ◌+◌, ◌<◌, ◌≤◌, List, [], ◌∷◌, ◌++◌, length, get_or, take, drop, ℤ, pos, Some, None, Ok, Err, refl, sym, ap, subst, ◌∙◌, arith}
use Rattle.std.specs.List.{position_from}
use Rattle.std.proofs.lemmas.List.{take_more, take_all}
use Rattle.std.proofs.Math.ListN.{drop_of_length-le}
use Rattle.stream_filters.specs.Range.{ranged}
use Rattle.stream_filters.specs.declared.fault.TooBigValue.{TooBigValue}
use Rattle.phase_accum.specs.Sends.{IsSend, AreSends}
use Rattle.phase_accum.proofs.Parts.{AreSends-append}
use Rattle.stream_lists.specs.Ranges.{is_out_of_range}
use Rattle.stream_lists.proofs.InRange.{IsSend-in_range}
use Rattle.stream_filters.proofs.Made.{position-pass, position-here, ranged-ok, ranged-err}

-- ---- values that can be sent

pub AreSends-at : (xs : List ℤ) (n : ℕ) (d : ℤ) → AreSends xs → n < length xs
    → IsSend (get_or xs n d)
AreSends-at [] n d all lt = absurd (omega arith)
AreSends-at (x ∷ xs) zero d all lt = all.0
AreSends-at (x ∷ xs) (suc n) d all lt = AreSends-at xs n d all.1 (omega arith)

-- ---- the first values of a list

-- these are the first n values of the whole list, and they are in range
pub record MadeInRange (whole list : List ℤ) (n : ℕ) : Type 0 where
  pub list_is : list ≡ take n whole
  pub sends : AreSends list
  pub none_yet : position_from is_out_of_range 0 whole
      ≡ position_from is_out_of_range n (drop n whole)

-- one more value is in range
pub MadeInRange-more : (whole list : List ℤ) (n : ℕ) (y : ℤ)
    → MadeInRange whole list n → n < length whole → ranged (get_or whole n (pos 0)) ≡ Ok y
    → MadeInRange whole (list ++ y ∷ []) (n + 1)
MadeInRange-more whole list n y made lt answer =
    let told = ranged-ok (get_or whole n (pos 0)) y answer in
    let last = IsSend-in_range (get_or whole n (pos 0)) told.1 in
    record {
      list_is = ap (λ xs. xs ++ y ∷ []) made.list_is
          ∙ (ap (λ v. take n whole ++ v ∷ []) (sym told.0) ∙ sym (take_more whole n (pos 0) lt));
      sends = AreSends-append list (y ∷ []) made.sends (subst (λ z. IsSend z) told.0 last, tt);
      none_yet = made.none_yet ∙ position-pass is_out_of_range n whole n (pos 0) lt told.1;
    }

-- the next value is the first that is out of range
pub MadeInRange-fault : (whole list : List ℤ) (n : ℕ) (f : TooBigValue)
    → MadeInRange whole list n → n < length whole → ranged (get_or whole n (pos 0)) ≡ Err f
    → position_from is_out_of_range 0 whole ≡ Some n
MadeInRange-fault whole list n f made lt answer =
    made.none_yet
    ∙ position-here is_out_of_range n whole n (pos 0) lt
    (ranged-err (get_or whole n (pos 0)) f answer)

-- all values are made
pub MadeInRange-all : (whole list : List ℤ) (n : ℕ) → MadeInRange whole list n → length whole ≤ n
    → (list ≡ whole) × (position_from is_out_of_range 0 whole ≡ None)
MadeInRange-all whole list n made long =
    (made.list_is ∙ take_all n whole long, made.none_yet ∙ rw (drop_of_length-le whole long) refl)

-- Lists of values that can be sent.
use Rattle.std.proofs.Common.{ℕ, zero, suc, ◌+◌, List, [], ◌∷◌, get_or, map, ℤ, arith}
use Rattle.std.specs.List.{All, range_with_len}
use Rattle.phase_accum.specs.Sends.{IsSend, AreSends}
use Rattle.stream_lists.specs.Lists.{entry}

-- one of several lists
pub AreSends-one : {A : Type 0} (f : A → List ℤ) (xs : List A) (k : ℕ)
    → All (λ x. AreSends (f x)) xs → AreSends (get_or (map f xs) k [])
AreSends-one f [] k all = tt
AreSends-one f (x ∷ xs) zero all = all 0 x (omega arith)
AreSends-one f (x ∷ xs) (suc k) all =
    AreSends-one f xs k (λ n d lt. all (suc n) d (omega arith))

-- numbers each of which can be sent
pub AreSends-range : (f : ℕ → ℤ) (a n : ℕ) → ((i : ℕ) → IsSend (f i))
    → AreSends (map f (range_with_len a n))
AreSends-range f a zero each = tt
AreSends-range f a (suc n) each = (each a, AreSends-range f (a + 1) n each)

pub IsSend-entry : (xs : List ℤ) (n : ℕ) → AreSends xs → IsSend (entry xs n)
IsSend-entry [] n s = record { small = omega arith }
IsSend-entry (x ∷ xs) zero s = s.0
IsSend-entry (x ∷ xs) (suc n) s = IsSend-entry xs n s.1

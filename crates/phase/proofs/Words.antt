-- Which words name workers.
use Rattle.std.proofs.Common.{◌≡◌, ◌<◌, ◌+◌, ℕ, suc, List, length, drop, get_or, map, Bool, true, false, refl, sym, ap, ◌∙◌, arith}
use Rattle.std.proofs.Math.Seq.{drop-cons}
use Rattle.std.specs.List.{list_any}

-- an element that does not pass is passed over
pub any-pass : {X : Type 0} (p : X → Bool) (xs : List X) (i : ℕ) (d : X)
    → i < length xs → p (get_or xs i d) ≡ false
    → list_any p (drop i xs) ≡ list_any p (drop (i + 1) xs)
any-pass p xs i d lt e =
    let next : suc i ≡ i + 1 = omega arith in
    rw (drop-cons xs i d lt, e) (ap (λ m. list_any p (drop m xs)) next)

-- one that passes is among the others
pub any-here : {X : Type 0} (p : X → Bool) (xs : List X) (i : ℕ) (d : X)
    → i < length xs → p (get_or xs i d) ≡ true → list_any p (drop i xs) ≡ true
any-here p xs i d lt e = rw (drop-cons xs i d lt, e) refl

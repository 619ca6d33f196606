-- Values for which the order of lists of sends makes no difference.
use Rattle.std.specs.Prelude.{◌≡◌, ℤ, List, ◌++◌}

-- the value of a list is the same where two of its pieces that stand side by side change places
abbrev pub Exchanges : {X : Type 0} → (List ℤ → X) → Type 0
Exchanges value = (front xs ys back : List ℤ)
    → value (front ++ (xs ++ (ys ++ back))) ≡ value (front ++ (ys ++ (xs ++ back)))

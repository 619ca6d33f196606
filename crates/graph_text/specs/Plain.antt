-- Words and lines without where they lie in memory.
use Rattle.std.specs.Prelude.{ℕ, List, map}
use Rattle.std.specs.Borrow.{Bor}

-- words without where they lie in memory
abbrev pub plain : List (Bor (List ℕ)) → List (List ℕ)
plain pieces = map (λ piece. piece.now) pieces

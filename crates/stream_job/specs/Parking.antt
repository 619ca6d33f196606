-- Which tasks were blocked on a phaser since its last event.
use Rattle.std.specs.Prelude.{◌≡◌, true, get_or, ℕ, ◌==◌, List, [], ◌∷◌, ◌++◌, if◌then◌else◌}
use Rattle.std.specs.List.{list_any}

-- a list with this task behind it, where it did not stand there
abbrev pub with_task : ℕ → List ℕ → List ℕ
with_task t list = if list_any (λ u. u == t) list then list else list ++ t ∷ []

-- a task stands in the list of some phaser
abbrev pub StandsIn : List (List ℕ) → ℕ → Type 0
StandsIn parked t = (p : ℕ) × (list_any (λ u. u == t) (get_or parked p []) ≡ true)

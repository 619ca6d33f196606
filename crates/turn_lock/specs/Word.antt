-- What a table's seat knows of a lock, and what a take that won and a give tell.
use Rattle.std.specs.Prelude.{◌≡◌, ℕ, Bool, true, false, Option, Some, [], ◌∷◌}
use Rattle.atomic_table.specs.Table.{Me, Step}
use Rattle.turn_lock.specs.declared.seat.Doing.{Doing}

-- a view of the table, and the slots that are out with it
abbrev pub Stand : Type 0 → Type 0 → Type 0 → Type 0
Stand N T V = Me T (Doing N V)

-- a seat's record of the lock's name, whether it has the turn, and what its caller knows. What it
-- told is of locks with words
abbrev pub doing : {N V : Type 0} → Option N → Bool → V → Doing N V
doing name turn v = record { name = name; turn = turn; told = 0; client = v }

-- what the caller's rule sees of a seat
abbrev pub client : {N V : Type 0} → Doing N V → V
client d = d.client

module _ {N T V : Type 0} where
  -- the seat has the turn, and the value x is out with it
  abbrev pub Won : (N → V → T → V → Type 0) → Stand N T V → Stand N T V → Type 0
  Won then m m' =
      (x : T) × (m'.0.turn ≡ true) × (m'.0.name ≡ m.0.name) × (m'.1 ≡ (0, x) ∷ [])
      × ((name : N) → m.0.name ≡ Some name → then name m.0.client x m'.0.client)

  -- the seat gave back the turn, with the value that lay in the slot
  abbrev pub gave : (N → V → T → V → Type 0)
      → Step T → Stand N T V → ℕ → Stand N T V → Type 0
  gave then st m r m' =
      (m'.0.turn ≡ false) × (m'.0.name ≡ m.0.name) × (m'.1 ≡ [])
      × ((name : N) (y : T) → m.0.name ≡ Some name → m.1 ≡ (0, y) ∷ []
      → then name m.0.client y m'.0.client)

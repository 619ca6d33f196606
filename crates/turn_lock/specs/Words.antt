-- The rule of a lock's table where the lock has words, and what each of its steps tells.
-- The first word is even while the turn is free, and odd while a seat has it; half of it is what
-- the lock tells. Behind it are the words that the caller's rule sees.
use Rattle.std.specs.Prelude.{◌≡◌, ◌≢◌, ℕ, ◌*◌, ◌+◌, ◌/◌, ◌%◌, Bool, true, false, Option, Some, None}
use Rattle.std.specs.Prelude.{List, [], ◌∷◌, map, length}
use mathlib.Core.Option.{none, some}
use lib.ListN.{get_elem?}
use Rattle.atomic_table.specs.Table.{State, Step}
use Rattle.turn_lock.specs.declared.seat.Doing.{Doing}
use Rattle.turn_lock.specs.Word.{Stand, Won, client}
use Rattle.turn_lock.specs.WordSteps.{BusyOf}

-- a seat's record of the lock's name, whether it has the turn, what the lock told when it took the
-- turn, and what its caller knows
abbrev pub telling : {N V : Type 0} → Option N → Bool → ℕ → V → Doing N V
telling name turn told v = record { name = name; turn = turn; told = told; client = v }

module _ {N V : Type 0} where
  -- no seat has the turn
  abbrev pub IsIdle : List (Doing N V) → Type 0
  IsIdle views = (j : ℕ) (d : Doing N V) → get_elem? views j ≡ some d → d.turn ≡ false

  -- one seat has the turn, and knows what the lock tells
  pub record IsOneTurn (told : ℕ) (views : List (Doing N V)) : Type 0 where
    pub holder : ℕ
    pub view : Doing N V
    pub there : get_elem? views holder ≡ some view
    pub turns : view.turn ≡ true
    pub knows : view.told ≡ told
    pub only : (j : ℕ) (d : Doing N V) → get_elem? views j ≡ some d → d.turn ≡ true → j ≡ holder

  -- one seat has the turn while the value is out, and none while it is at home
  abbrev pub IsTurnWith : {T : Type 0} → Option T → ℕ → List (Doing N V) → Type 0
  IsTurnWith None told views = IsOneTurn told views
  IsTurnWith (Some x) told views = IsIdle views

-- the lock's own word
abbrev pub lock_word : {T : Type 0} → Option T → ℕ → ℕ
lock_word None told = told * 2 + 1
lock_word (Some x) told = told * 2

-- the slot of the value
abbrev pub slot_of : {T : Type 0} → Option T → mathlib.Core.Option.Option T
slot_of None = none
slot_of (Some x) = some x

-- the rule of the table
pub record IsWordLock {N T V : Type 0} (holds : N → Option T → ℕ → List ℕ → List V → Type 0)
    (name : N) (s : State T (Doing N V)) : Type 0 where
  pub home : Option T
  pub told : ℕ
  pub words : List ℕ
  pub long : length words ≡ 287
  pub word : s.words ≡ lock_word home told ∷ words
  pub slot : s.homes ≡ slot_of home ∷ []
  pub turn : IsTurnWith home told s.views
  pub kept : holds name home told words (map client s.views)

module _ {N T V : Type 0} where
  -- a look before a try to take: nothing changed, and where the word was odd, another seat had the
  -- turn
  abbrev pub saw_word : (N → Option T → ℕ → List ℕ → List V → Type 0)
      → Step T → Stand N T V → ℕ → Stand N T V → Type 0
  saw_word holds st m r m' =
      (m' ≡ m)
      × (r % 2 ≢ 0 → (name : N) → m.0.name ≡ Some name → BusyOf holds name m.0.client)

  -- a try to take the turn won it where the word was even; else nothing changed
  abbrev pub tried_word : (N → Option T → ℕ → List ℕ → List V → Type 0) → (N → V → T → V → Type 0)
      → Step T → Stand N T V → ℕ → Stand N T V → Type 0
  tried_word holds then st m r m' =
      (r % 2 ≡ 0 → Won then m m')
      × (r % 2 ≢ 0
      → (m' ≡ m) × ((name : N) → m.0.name ≡ Some name → BusyOf holds name m.0.client))

  -- the seat that has the turn looked at what the lock tells, which it knew
  abbrev pub knew : Step T → Stand N T V → ℕ → Stand N T V → Type 0
  knew st m r m' = (m' ≡ m) × (r / 2 ≡ m.0.told)

  -- the seat made a step at a word, and only its caller's view changed
  abbrev pub acted : (N → V → ℕ → V → Type 0)
      → Step T → Stand N T V → ℕ → Stand N T V → Type 0
  acted then st m r m' =
      (m'.0.turn ≡ m.0.turn) × (m'.0.told ≡ m.0.told) × (m'.0.name ≡ m.0.name) × (m'.1 ≡ m.1)
      × ((name : N) → m.0.name ≡ Some name → then name m.0.client r m'.0.client)

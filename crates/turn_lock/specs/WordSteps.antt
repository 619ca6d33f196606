-- What a caller shows of each kind of step of a lock with words, and what a refused take tells.
-- `holds name home told words views` is the caller's rule: over the lock's name, the value at home,
-- which is None while a turn has it, the number that the lock tells, its 287 words, and what all
-- seats know. `views` at a seat's number is its view.
use Rattle.std.specs.Prelude.{◌≡◌, ◌≢◌, ℕ, ◌<◌, Option, Some, None, List, [], ◌∷◌, ◌++◌, length}
use Rattle.std.specs.Prelude.{slice_index, slice_set}
use mathlib.Core.Option.{some}
use lib.ListN.{get_elem?}

module _ {N T V : Type 0} (holds : N → Option T → ℕ → List ℕ → List V → Type 0) (name : N) where
  -- whatever value is at home and whatever the others know, the rule stays when the value goes
  -- out, and this seat's view becomes some w
  abbrev pub TakesOf : ℕ → V → (V → T → V → Type 0) → Type 0
  TakesOf number v then =
      (x : T) (told : ℕ) (words : List ℕ) (views : List V) → length words ≡ 287
      → holds name (Some x) told words views → get_elem? views number ≡ some v
      → (w : V) × holds name None told words (slice_set views number w) × then v x w

  -- the same while the value is out, when y comes home, and the lock tells another number
  abbrev pub GivesOf : ℕ → V → T → ℕ → ℕ → (V → T → V → Type 0) → Type 0
  GivesOf number v y told next then =
      (words : List ℕ) (views : List V) → length words ≡ 287
      → holds name None told words views → get_elem? views number ≡ some v
      → (w : V) × holds name (Some y) next words (slice_set views number w) × then v y w

  -- the same when the number is read that the lock tells
  abbrev pub LooksOf : ℕ → V → (V → ℕ → V → Type 0) → Type 0
  LooksOf number v then =
      (home : Option T) (told : ℕ) (words : List ℕ) (views : List V) → length words ≡ 287
      → holds name home told words views → get_elem? views number ≡ some v
      → (w : V) × holds name home told words (slice_set views number w) × then v told w

  -- the same when the word at this place is read
  abbrev pub ReadsOf : ℕ → V → ℕ → (V → ℕ → V → Type 0) → Type 0
  ReadsOf number v place then =
      (home : Option T) (told : ℕ) (words : List ℕ) (views : List V) → length words ≡ 287
      → holds name home told words views → get_elem? views number ≡ some v
      → (w : V) × holds name home told words (slice_set views number w)
      × then v (slice_index words place) w

  -- the same when the word at this place becomes n
  abbrev pub WritesOf : ℕ → V → ℕ → ℕ → (V → V → Type 0) → Type 0
  WritesOf number v place n then =
      (home : Option T) (told : ℕ) (words : List ℕ) (views : List V) → length words ≡ 287
      → holds name home told words views → get_elem? views number ≡ some v
      → (w : V) × holds name home told (slice_set words place n) (slice_set views number w)
      × then v w

  -- while the value is out and the lock tells this number, the word at this place is read
  abbrev pub ReadsIn : ℕ → V → ℕ → ℕ → (V → ℕ → V → Type 0) → Type 0
  ReadsIn number v told place then =
      (words : List ℕ) (views : List V) → length words ≡ 287
      → holds name None told words views → get_elem? views number ≡ some v
      → (w : V) × holds name None told words (slice_set views number w)
      × then v (slice_index words place) w

  -- the same when the word at this place becomes n
  abbrev pub WritesIn : ℕ → V → ℕ → ℕ → ℕ → (V → V → Type 0) → Type 0
  WritesIn number v told place n then =
      (words : List ℕ) (views : List V) → length words ≡ 287
      → holds name None told words views → get_elem? views number ≡ some v
      → (w : V) × holds name None told (slice_set words place n) (slice_set views number w)
      × then v w

  -- the rule is looked at: nothing but this seat's view changes
  abbrev pub JoinLooks : ℕ → V → (V → V → Type 0) → Type 0
  JoinLooks number v then =
      (home : Option T) (told : ℕ) (words : List ℕ) (views : List V) → length words ≡ 287
      → holds name home told words views → get_elem? views number ≡ some v
      → (w : V) × holds name home told words (slice_set views number w) × then v w

  -- the rule stays when this seat's view is cut in two, and a new seat has the second part
  abbrev pub ForksOf : ℕ → V → V → V → Type 0
  ForksOf number v left right =
      (home : Option T) (told : ℕ) (words : List ℕ) (views : List V) → length words ≡ 287
      → holds name home told words views → get_elem? views number ≡ some v
      → holds name home told words (slice_set views number left ++ right ∷ [])

  -- the same when this seat takes in the view w of another, which is left with a spent one
  abbrev pub MergesOf : ℕ → V → ℕ → V → V → V → Type 0
  MergesOf number v other w both spent =
      (home : Option T) (told : ℕ) (words : List ℕ) (views : List V) → length words ≡ 287
      → holds name home told words views → other ≢ number
      → get_elem? views number ≡ some v → get_elem? views other ≡ some w
      → holds name home told words (slice_set (slice_set views number both) other spent)

-- while the value is out, the rule allows this view and another seat beside it. That the other one
-- has the turn is for the rule to say
pub record BusyOf {N T V : Type 0} (holds : N → Option T → ℕ → List ℕ → List V → Type 0) (name : N)
    (v : V) : Type 0 where
  pub told : ℕ
  pub words : List ℕ
  pub views : List V
  pub number : ℕ
  pub holder : ℕ
  pub long : length words ≡ 287
  pub kept : holds name None told words views
  pub here : get_elem? views number ≡ some v
  pub other : holder ≢ number
  pub there : holder < length views

-- What a seat knows: the history that it has seen, and the tasks that it speaks for.
use Rattle.std.specs.Prelude.{◌≡◌, ℕ, List, [], ◌∷◌, ◌++◌, Bool, true, false, None, take, drop}
use Rattle.phase_shared.specs.Phasers.{History, OthersCame, Outcome}
use Rattle.phase_accum.specs.declared.outcome.Outcome.TheVariants.{Empty}
use Rattle.phase_shared.specs.declared.seats.view.Ask.{Ask}
use Rattle.phase_shared.specs.declared.seats.view.Knowledge.{Knowledge}
pub use Rattle.phase_shared.specs.declared.seats.view.Lane.{Lane}
pub use Rattle.phase_shared.specs.declared.seats.view.Lane.TheVariants.{Unknown, Free, Own, Holds}
use Rattle.phase_shared.specs.declared.seats.view.View.{View}
use Rattle.phase_shared.specs.declared.seats.view.View.TheVariants.{Resting, Turning, Joining, Posting, Asking, Reading, Spent}

-- this history was seen, and these numbers are spoken for
abbrev pub knowledge : History → List ℕ → Knowledge
knowledge seen speaks = record { seen = seen; speaks = speaks }

-- the same, at rest
abbrev pub resting : History → List ℕ → View
resting seen speaks = Resting (knowledge seen speaks)

-- the same, where a lane is its own
abbrev pub owning : History → List ℕ → ℕ → View
owning seen speaks lane = Posting (knowledge seen speaks) lane None

-- the same, with the turn: it has read these asks, and knows what the board has, and this of a lane
abbrev pub turning : History → List ℕ → List Ask → Outcome → Lane → View
turning seen speaks claims said lane = Turning (knowledge seen speaks) claims said lane

-- the numbers that a view speaks for
abbrev pub speaks_of : View → List ℕ
speaks_of (Resting f) = f.speaks
speaks_of (Turning f claims said lane) = f.speaks
speaks_of (Joining f g) = f.speaks ++ g.speaks
speaks_of (Posting f i n) = f.speaks
speaks_of (Asking f a) = f.speaks
speaks_of (Reading f a) = f.speaks
speaks_of Spent = []

-- what a view knows, the first of both where it has two
abbrev pub known_of : View → Knowledge
known_of (Resting f) = f
known_of (Turning f claims said lane) = f
known_of (Joining f g) = f
known_of (Posting f i n) = f
known_of (Asking f a) = f
known_of (Reading f a) = f
known_of Spent = knowledge [] []

-- the second of both, of a view that has two
abbrev pub second_of : View → Knowledge
second_of (Joining f g) = g
second_of v = known_of v

-- whether the view has the turn
abbrev pub is_turning : View → Bool
is_turning (Turning f claims said lane) = true
is_turning _ = false

-- what was seen is a beginning of the history, which has no later events of those spoken for
abbrev pub Fits : Knowledge → History → Type 0
Fits f log = OthersCame f.speaks f.seen log

-- a joined view keeps both until its look
abbrev pub joining : View → View → View
joining v w = Joining (known_of v) (known_of w)

-- the first number that a view speaks for, with what was seen
abbrev pub first_part : View → View
first_part v = resting (known_of v).seen (take 1 (known_of v).speaks)

-- the other numbers, with what was seen
abbrev pub other_part : View → View
other_part v = resting (known_of v).seen (drop 1 (known_of v).speaks)

-- the view is at rest
abbrev pub IsResting : View → Type 0
IsResting v = v ≡ Resting (known_of v)

-- the view is at rest and speaks for one number
pub record SpeaksForOne (v : View) : Type 0 where
  pub task : ℕ
  pub rests : v ≡ resting (known_of v).seen (task ∷ [])

-- the view is at rest and speaks for two numbers
pub record SpeaksForTwo (v : View) : Type 0 where
  pub one : ℕ
  pub other : ℕ
  pub rests : v ≡ resting (known_of v).seen (one ∷ other ∷ [])

-- what a holder knows of the board, what it read, and what it knows of a lane
abbrev pub board_of : View → Outcome
board_of (Turning f claims said lane) = said
board_of v = Empty

abbrev pub claims_of : View → List Ask
claims_of (Turning f claims said lane) = claims
claims_of v = []

abbrev pub lane_of : View → Lane
lane_of (Turning f claims said lane) = lane
lane_of v = Unknown

-- the lane that a seat without a turn knows to be its own
abbrev pub lane_at_rest : View → Lane
lane_at_rest (Posting f i n) = Own i
lane_at_rest v = Unknown

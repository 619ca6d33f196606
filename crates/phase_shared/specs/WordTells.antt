-- What steps on words tell, over views.
use Rattle.std.specs.Prelude.{◌≡◌, ◌≢◌, ℕ, ◌+◌, ◌<◌, ◌⊎◌, List, [], ◌∷◌, ◌++◌, None, Some}
use Rattle.phase_shared.specs.Phasers.{Limits, Operation, Outcome, History, done_of, signal_phase, IsLegal, value_of_phase, CoreState}
use Rattle.phase_shared.specs.declared.seats.view.Knowledge.{Knowledge}
use Rattle.phase_shared.specs.declared.seats.view.View.{View}
use Rattle.phase_shared.specs.declared.seats.view.View.TheVariants.{Resting, Turning, Posting, Asking, Reading}
use Rattle.phase_shared.specs.Asks.{Ask, Batch, IsOneOf}
use Rattle.phase_shared.specs.Goods.{Allows}
use Rattle.phase_shared.specs.Lanes.{sends_of, KindIs, NumberIs, with_number}
use Rattle.phase_shared.specs.Rule.{StandsWithin}
use Rattle.phase_shared.specs.Tells.{TookAsked, Looked, LaneRead, OwnerRead, SendRead}
use Rattle.phase_shared.specs.Views.{Lane, Unknown, Free, Own, Holds, turning, known_of, board_of}

-- a view that has the turn, and one that has still to read its value
pub record IsHolder (v : View) : Type 0 where
  pub knows : Knowledge
  pub claims : List Ask
  pub said : Outcome
  pub lane : Lane
  pub is : v ≡ Turning knows claims said lane

pub record IsReading (v : View) : Type 0 where
  pub knows : Knowledge
  pub ask : Ask
  pub is : v ≡ Reading knows ask

-- a holder that does not know what the lane has
pub record IsOther (i : ℕ) (v : View) : Type 0 where
  pub knows : Knowledge
  pub claims : List Ask
  pub said : Outcome
  pub lane : Lane
  pub is : v ≡ Turning knows claims said lane
  pub other : (n : ℕ) → lane ≢ Holds i n

-- the holder's lane is its own, whatever that has
abbrev pub KnowsOwn : ℕ → Lane → Type 0
KnowsOwn i lane = (lane ≡ Own i) ⊎ ((n : ℕ) × (lane ≡ Holds i n))

pub record IsOwnLane (i : ℕ) (v : View) : Type 0 where
  pub knows : Knowledge
  pub claims : List Ask
  pub said : Outcome
  pub lane : Lane
  pub is : v ≡ Turning knows claims said lane
  pub own : KnowsOwn i lane

-- a holder that knows of no lane, and one that knows of one that is nobody's
pub record KnowsNoLane (v : View) : Type 0 where
  pub knows : Knowledge
  pub claims : List Ask
  pub said : Outcome
  pub is : v ≡ Turning knows claims said Unknown

pub record KnowsFree (i : ℕ) (v : View) : Type 0 where
  pub knows : Knowledge
  pub claims : List Ask
  pub said : Outcome
  pub is : v ≡ Turning knows claims said (Free i)

-- a view with another board, and one that knows something else of a lane
abbrev pub with_board : Outcome → View → View
with_board outcome (Turning f claims said lane) = Turning f claims outcome lane
with_board outcome v = v

abbrev pub with_lane : Lane → View → View
with_lane n (Turning f claims said lane) = Turning f claims said n
with_lane n v = v

-- the events of the turn so far complete a phase
pub record Completes (limits : Limits) (v : View) : Type 0 where
  pub now : History
  pub speaks : List ℕ
  pub claims : List Ask
  pub said : Outcome
  pub lane : Lane
  pub later : History
  pub is : v ≡ turning now speaks claims said lane
  pub batch : Batch (IsOneOf claims) speaks later now
  pub legal : IsLegal limits (later ++ now)
  pub some : now ≡ [] → ⊥
  pub more : done_of now < done_of (later ++ now)

-- the board has this kind, or this number where it has one
abbrev pub HasKind : ℕ → View → View → Type 0
HasKind kind v w = (w ≡ with_board (board_of w) v) × KindIs kind (board_of w)

abbrev pub HasNumber : ℕ → View → View → Type 0
HasNumber number v w = w ≡ with_board (with_number number (board_of v)) v

module _ (limits : Limits) (allows : Allows) where
  -- a lane is read
  abbrev pub LaneReadAt : ℕ → View → ℕ → View → Type 0
  LaneReadAt i v r w =
      (f : Knowledge) (claims : List Ask) (said : Outcome) (lane : Lane)
      → v ≡ Turning f claims said lane
      → LaneRead limits allows i f claims said lane r w

  -- a look of a seat that asks
  abbrev pub LookedAt : View → ℕ → View → Type 0
  LookedAt v told w =
      (f : Knowledge) (a : Ask) → v ≡ Asking f a
      → Looked limits allows a f told w

  -- a take of one
  abbrev pub TookAskedAt : {A : Type 0} → Operation A → View → CoreState A → View → Type 0
  TookAskedAt op v x w =
      (f : Knowledge) (a : Ask) → v ≡ Asking f a
      → TookAsked op.value limits allows (StandsWithin op limits) f a x w

-- it is read whose a lane is
abbrev pub OwnerReadAt : ℕ → View → ℕ → View → Type 0
OwnerReadAt i v r w =
    (f : Knowledge) (claims : List Ask) (said : Outcome) (lane : Lane)
    → v ≡ Turning f claims said lane → OwnerRead i claims v r w

-- the same, by a holder that looks for a lane which is nobody's
abbrev pub FreeRead : ℕ → View → ℕ → View → Type 0
FreeRead i v r w = (r ≡ 0 → w ≡ with_lane (Free i) v) × (r ≢ 0 → w ≡ v)

-- the same, by a seat at rest that looks whether it is its own
abbrev pub OwnRead : ℕ → ℕ → View → ℕ → View → Type 0
OwnRead i task v r w =
    (r ≡ task + 1 → w ≡ Posting (known_of v) i None) × (r ≢ task + 1 → w ≡ v)

-- the second word of a lane is read
abbrev pub SendReadAt : ℕ → View → ℕ → View → Type 0
SendReadAt i v r w =
    (f : Knowledge) (claims : List Ask) (said : Outcome) (lane : Lane)
    → v ≡ Turning f claims said lane → SendRead i f claims v r w

-- the next phase of the one task, in this lane, with what the word says
abbrev pub next_ask : History → List ℕ → ℕ → ℕ → Ask
next_ask seen (task ∷ others) i n =
    record { task = task; lane = i; phase = signal_phase seen task; sends = sends_of n }
next_ask seen [] i n = record { task = 0; lane = i; phase = 0; sends = [] }

-- the lane that it posts in
abbrev pub lane_in : ℕ → View → ℕ
lane_in none (Posting f i n) = i
lane_in none v = none

-- it asks for it
abbrev pub asking_of : View → View
asking_of (Posting f i (Some n)) = Asking f (next_ask f.seen f.speaks i n)
asking_of v = v

-- who was answered reads the kind of the value, and then its number
abbrev pub ReadsKind : {A : Type 0} → Operation A → View → ℕ → View → Type 0
ReadsKind op v r w =
    (w ≡ v) × ((f : Knowledge) (a : Ask) → v ≡ Reading f a
    → KindIs r (value_of_phase op.value f.seen a.phase))

abbrev pub ReadsNumber : {A : Type 0} → Operation A → View → ℕ → View → Type 0
ReadsNumber op v r w =
    (f : Knowledge) (a : Ask) → v ≡ Reading f a
    → (w ≡ Resting f) × NumberIs r (value_of_phase op.value f.seen a.phase)

-- the holder reads the board
abbrev pub BoardKind : View → ℕ → View → Type 0
BoardKind v r w = (w ≡ v) × KindIs r (board_of v)

abbrev pub BoardNumber : View → ℕ → View → Type 0
BoardNumber v r w = (w ≡ v) × NumberIs r (board_of v)

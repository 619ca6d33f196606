-- The rule of a phaser's lock on which calls can be asked for: beside the value at home, the lock
-- tells a number of phases, and its words have what is asked for and the value of the last of them.
-- What is told is twice the number of complete phases, and one more where each ask for a phase
-- below that number was answered.
use Rattle.std.specs.Prelude.{◌≡◌, ℕ, ℤ, ◌+◌, ◌<◌, ◌≤◌, ◌/◌, ◌%◌, List, [], ◌∷◌, ◌++◌, ◌⊎◌, Option, None, Some, Bool, true, ◌==◌, ◌&&◌, if◌then◌else◌}
use mathlib.Core.Option.{some}
use lib.ListN.{get_elem?}
use Rattle.phase_shared.specs.Phasers.{Limits, is_distinct, is_in, Outcome, History, signal_phase, wait_phase, done_of, value_of_phase, IsUsed, OthersCame}
use Rattle.phase_shared.specs.Goods.{Allows, IsGood}
use Rattle.phase_shared.specs.declared.seats.view.Knowledge.{Knowledge}
use Rattle.phase_shared.specs.Views.{Fits, Lane, Unknown, Free, Own, Holds, speaks_of}
pub use Rattle.phase_shared.specs.declared.seats.view.View.{View}
pub use Rattle.phase_shared.specs.declared.seats.view.View.TheVariants.{Resting, Turning, Joining, Posting, Asking, Reading, Spent}
use Rattle.phase_shared.specs.Asks.{Ask, Stage, IsUnmade, IsMade, IsAnsweredAsk, IsAtPhases, IsOneOf}
use Rattle.phase_shared.specs.Lanes.{lanes_most, board, posted, send_word, owner_word, sends_of}

-- the rule allows the ask's signal, whatever the others do
abbrev pub MayMakeAsk : Limits → Allows → History → Ask → Type 0
MayMakeAsk limits allows seen a =
    (h : History) → IsGood limits allows h → OthersCame (a.task ∷ []) seen h
    → allows h a.task (a.sends ∷ []) None

-- an ask that stands: how far it is; where all below a number were answered, it is not below it
-- unless it was; its lane has it; and where it was answered, the board has its value
pub record AskStands (value : List ℤ → Outcome) (limits : Limits) (allows : Allows) (log : History)
    (told : ℕ) (words : List ℕ) (f : Knowledge) (a : Ask) : Type 0 where
  pub speaks : f.speaks ≡ a.task ∷ []
  pub low : a.lane < lanes_most
  pub owned : owner_word words a.lane ≡ a.task + 1
  pub stage : Stage limits a f.seen log
  pub waits : told % 2 ≡ 1 → IsMade limits a f.seen log → told / 2 ≤ a.phase
  pub may : MayMakeAsk limits allows f.seen a
  pub has : IsAnsweredAsk limits a f.seen log → board words ≡ value_of_phase value log a.phase
  pub posts : posted words a.lane ≡ a.phase + 1
  pub sends : IsAtPhases log a.task a.phase a.phase → sends_of (send_word words a.lane) ≡ a.sends

-- an ask that was answered, and whose value is still to be read
pub record HasToRead (value : List ℤ → Outcome) (log : History) (words : List ℕ) (f : Knowledge)
    (a : Ask) : Type 0 where
  pub speaks : f.speaks ≡ a.task ∷ []
  pub fits : Fits f log
  pub stands : IsAtPhases log a.task (a.phase + 1) (a.phase + 1)
  pub below : a.phase < done_of log
  pub has : board words ≡ value_of_phase value f.seen a.phase

-- a lane is that of the one task
pub record Owns (words : List ℕ) (f : Knowledge) (i : ℕ) : Type 0 where
  pub task : ℕ
  pub speaks : f.speaks ≡ task ∷ []
  pub low : i < lanes_most
  pub owned : owner_word words i ≡ task + 1

-- what a holder knows of a lane
abbrev pub LaneIs : List ℕ → Knowledge → Lane → Type 0
LaneIs words f Unknown = Unit {0}
LaneIs words f (Free i) = (i < lanes_most) × (owner_word words i ≡ 0)
LaneIs words f (Own i) = Owns words f i
LaneIs words f (Holds i n) = Owns words f i × (posted words i ≡ n)

-- the word that says what is sent in a lane, where it is known
abbrev pub SendIs : List ℕ → ℕ → Option ℕ → Type 0
SendIs words i None = Unit {0}
SendIs words i (Some n) = send_word words i ≡ n

abbrev pub IsSound : {T : Type 0} → (List ℤ → Outcome) → Limits → Allows → Option T → ℕ → History
    → ℕ → List ℕ → ℕ → View → Type 0
IsSound value limits allows home holder log told words j (Resting f) =
    Fits f log × (is_distinct f.speaks ≡ true)
IsSound value limits allows home holder log told words j (Turning f claims said lane) =
    (f.seen ≡ log) × (is_distinct f.speaks ≡ true) × (j ≡ holder) × (home ≡ None)
    × ((task : ℕ) × (is_in task f.speaks ≡ true)) × (said ≡ board words) × LaneIs words f lane
IsSound value limits allows home holder log told words j (Joining f g) =
    Fits f log × Fits g log × (is_distinct (f.speaks ++ g.speaks) ≡ true)
IsSound value limits allows home holder log told words j (Posting f i n) =
    Fits f log × (is_distinct f.speaks ≡ true) × Owns words f i × SendIs words i n
IsSound value limits allows home holder log told words j (Asking f a) =
    AskStands value limits allows log told words f a
IsSound value limits allows home holder log told words j (Reading f a) =
    HasToRead value log words f a
IsSound value limits allows home holder log told words j Spent = Unit {0}

-- an ask stands at some seat, and is not answered
pub record StandsAsked (limits : Limits) (log : History) (views : List View) (a : Ask)
    : Type 0 where
  pub seat : ℕ
  pub knows : Knowledge
  pub at : get_elem? views seat ≡ some (Asking knows a)
  pub waits_on : IsUnmade a knows.seen log ⊎ IsMade limits a knows.seen log

-- a seat has asked in a lane
pub record AskedAt (views : List View) (i : ℕ) : Type 0 where
  pub seat : ℕ
  pub knows : Knowledge
  pub ask : Ask
  pub at : get_elem? views seat ≡ some (Asking knows ask)
  pub is : ask.lane ≡ i

-- the phase whose number and one more is in a lane is complete: it asks for nothing
abbrev pub IsPast : History → ℕ → Type 0
IsPast log n = n ≤ done_of log

-- the lane is that of the holder, who knows what it has
pub record HeldAt (views : List View) (i : ℕ) : Type 0 where
  pub seat : ℕ
  pub knows : Knowledge
  pub claims : List Ask
  pub said : Outcome
  pub n : ℕ
  pub at : get_elem? views seat ≡ some (Turning knows claims said (Holds i n))

-- what a lane has: nothing, what was asked, what is past, or what its holder knows
abbrev pub IsLane : History → List View → ℕ → ℕ → Type 0
IsLane log views i n = (n ≡ 0) ⊎ (AskedAt views i ⊎ (IsPast log n ⊎ HeldAt views i))

pub record Kept {T : Type 0} (value : List ℤ → Outcome) (limits : Limits) (allows : Allows)
    (Stands : T → History → Type 0) (home : Option T) (told : ℕ) (words : List ℕ)
    (views : List View) : Type 0 where
  pub log : History
  pub good : IsGood limits allows log
  pub stands : (x : T) → home ≡ Some x → Stands x log
  pub within : told % 2 ≡ 1 → told / 2 ≤ done_of log
  pub holder : ℕ
  pub out : home ≡ None → (f : Knowledge) × (claims : List Ask) × (said : Outcome)
      × (lane : Lane) × (get_elem? views holder ≡ some (Turning f claims said lane))
  pub sound : (j : ℕ) (v : View) → get_elem? views j ≡ some v
      → IsSound value limits allows home holder log told words j v
  pub owner : ℕ → ℕ
  pub owns : (j : ℕ) (v : View) (task : ℕ) → get_elem? views j ≡ some v
      → is_in task (speaks_of v) ≡ true → (owner task ≡ j) × IsUsed log task
  -- what the holder read stands asked, and it has read each ask whose signal is made
  pub claimed : (j : ℕ) (f : Knowledge) (claims : List Ask) (said : Outcome) (lane : Lane)
      → get_elem? views j ≡ some (Turning f claims said lane)
      → (a : Ask) → IsOneOf claims a → StandsAsked limits log views a
  pub all : (j : ℕ) (f : Knowledge) (claims : List Ask) (said : Outcome) (lane : Lane)
      → get_elem? views j ≡ some (Turning f claims said lane)
      → (k : ℕ) (g : Knowledge) (a : Ask) → get_elem? views k ≡ some (Asking g a)
      → IsMade limits a g.seen log → IsOneOf claims a
  pub lanes : (i : ℕ) → i < lanes_most → IsLane log views i (posted words i)

-- whether the ask's signal is made and its wait is not, by where its task stands
abbrev pub is_made : History → Ask → Bool
is_made log a = (signal_phase log a.task == a.phase + 1) && (wait_phase log a.task == a.phase)

-- the asks among these views whose signals are made and whose waits are not
abbrev pub made_asks : History → List View → List Ask
made_asks log [] = []
made_asks log (Asking g a ∷ views) =
    if is_made log a then a ∷ made_asks log views else made_asks log views
made_asks log (v ∷ views) = made_asks log views

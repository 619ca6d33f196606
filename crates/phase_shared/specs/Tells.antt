-- What the steps of a seat tell it.
use Rattle.std.specs.Prelude.{◌≡◌, ◌≢◌, ℕ, ℤ, ◌+◌, ◌<◌, ◌≤◌, ◌/◌, ◌%◌, List, [], ◌∷◌, ◌++◌, ◌⊎◌, None, false}
use Rattle.phase_shared.specs.Phasers.{Limits, is_in, Outcome, History, done_of, value_of_phase, wait_refusal, OthersCame}
use Rattle.phase_history.specs.declared.event.Event.TheVariants.{Waited}
use Rattle.phase_shared.specs.Goods.{Allows, IsGood}
use Rattle.phase_shared.specs.declared.seats.view.Knowledge.{Knowledge}
use Rattle.phase_shared.specs.Views.{Lane, Own, Holds, knowledge, speaks_of, known_of, lane_at_rest}
use Rattle.phase_shared.specs.Asks.{Ask, Stage, IsMade, IsAnsweredAsk, IsAtPhases, IsOneOf}
use Rattle.phase_shared.specs.Lanes.{sends_of}
use Rattle.phase_shared.specs.Desks.{View, Resting, Turning, Asking, Reading, MayMakeAsk, IsPast}

-- a take that won, of a seat at rest: the history goes on from what it had seen, by events of
-- others
pub record Took {T : Type 0} (limits : Limits) (allows : Allows) (Stands : T → History → Type 0)
    (v : View) (x : T) (w : View) : Type 0 where
  pub now : History
  pub claims : List Ask
  pub said : Outcome
  pub others : OthersCame (speaks_of v) (known_of v).seen now
  pub good : IsGood limits allows now
  pub stands : Stands x now
  pub read : (a : Ask) → IsOneOf claims a → IsAtPhases now a.task (a.phase + 1) a.phase
      × (is_in a.task (speaks_of v) ≡ false)
  pub apart : (a : Ask) → IsOneOf claims a → (i : ℕ) → lane_at_rest v ≡ Own i → a.lane ≢ i
  pub is : w ≡ Turning (knowledge now (speaks_of v)) claims said (lane_at_rest v)

-- a take of a seat that asked
pub record TookAsked {T : Type 0} (value : List ℤ → Outcome) (limits : Limits) (allows : Allows)
    (Stands : T → History → Type 0) (f : Knowledge) (a : Ask) (x : T) (w : View) : Type 0 where
  pub now : History
  pub claims : List Ask
  pub said : Outcome
  pub stage : Stage limits a f.seen now
  pub has : IsAnsweredAsk limits a f.seen now → said ≡ value_of_phase value now a.phase
  pub good : IsGood limits allows now
  pub stands : Stands x now
  pub read : (b : Ask) → IsOneOf claims b → IsAtPhases now b.task (b.phase + 1) b.phase
      × (is_in b.task (a.task ∷ []) ≡ false)
  pub apart : (b : Ask) → IsOneOf claims b → b.lane ≢ a.lane
  pub is : w ≡ Turning (knowledge now (a.task ∷ [])) claims said (Holds a.lane (a.phase + 1))

-- what who asked learns: the history up to its own wait
pub record Learnt (limits : Limits) (allows : Allows) (a : Ask) (f : Knowledge) (w : View)
    : Type 0 where
  pub middle : History
  pub good : IsGood limits allows (Waited a.task 1 ∷ middle)
  pub made : IsMade limits a f.seen middle
  pub accepted : wait_refusal limits middle a.task 1 ≡ None
  pub complete : a.phase < done_of middle
  pub is : w ≡ Reading (knowledge (Waited a.task 1 ∷ middle) (a.task ∷ [])) a

-- whether what is told says that an ask for the phase was answered
abbrev pub TellsAnswer : ℕ → ℕ → Type 0
TellsAnswer told phase = (told % 2 ≡ 1) × (phase < told / 2)

-- the look of a seat that asked
pub record Looked (limits : Limits) (allows : Allows) (a : Ask) (f : Knowledge) (told : ℕ)
    (w : View) : Type 0 where
  pub answered : TellsAnswer told a.phase → Learnt limits allows a f w
  pub stays : (TellsAnswer told a.phase → ⊥) → w ≡ Asking f a

-- the signal of an ask that is not made can be made
pub record MayBeMade (limits : Limits) (allows : Allows) (log : History) (a : Ask) : Type 0 where
  pub seen : History
  pub others : OthersCame (a.task ∷ []) seen log
  pub may : MayMakeAsk limits allows seen a

-- what the holder learns of an ask: it is another task's, no other ask of this task stands, and it
-- is made or can be
pub record IsClaim (limits : Limits) (allows : Allows) (f : Knowledge) (claims : List Ask) (a : Ask)
    : Type 0 where
  pub one : IsOneOf claims a
  pub theirs : is_in a.task f.speaks ≡ false
  pub only : (b : Ask) → IsOneOf claims b → b.task ≡ a.task → b ≡ a
  pub stands : (IsAtPhases f.seen a.task a.phase a.phase × MayBeMade limits allows f.seen a)
      ⊎ IsAtPhases f.seen a.task (a.phase + 1) a.phase

-- the holder read r in lane i: what was asked there it has read, and each ask that was
-- newly read is a claim
pub record LaneRead (limits : Limits) (allows : Allows) (i : ℕ) (f : Knowledge) (claims : List Ask)
    (said : Outcome) (lane : Lane) (r : ℕ) (w : View) : Type 0 where
  pub new : List Ask
  pub is : w ≡ Turning f (new ++ claims) said lane
  pub fresh : (a : Ask) → IsOneOf new a → (a.lane ≡ i) × IsClaim limits allows f (new ++ claims) a
  pub read : (a : Ask) → IsOneOf (new ++ claims) a → a.lane ≡ i → r ≡ a.phase + 1
  pub found : ((r ≡ 0) ⊎ IsPast f.seen r)
      ⊎ ((a : Ask) × (a.lane ≡ i) × IsClaim limits allows f (new ++ claims) a)

-- the holder read r where it is said whose lane i is
abbrev pub OwnerRead : ℕ → List Ask → View → ℕ → View → Type 0
OwnerRead i claims v r w =
    (w ≡ v) × ((a : Ask) → IsOneOf claims a → a.lane ≡ i → r ≡ a.task + 1)

-- the holder read r in the second word of lane i
abbrev pub SendRead : ℕ → Knowledge → List Ask → View → ℕ → View → Type 0
SendRead i f claims v r w =
    (w ≡ v) × ((a : Ask) → IsOneOf claims a → a.lane ≡ i
    → IsAtPhases f.seen a.task a.phase a.phase → sends_of r ≡ a.sends)

-- what a giver knows of its own lane, and of its own ask where it is not answered
pub record StillAsks (limits : Limits) (allows : Allows) (told : ℕ) (new : History) (f : Knowledge)
    (lane : Lane) (w : View) : Type 0 where
  pub ask : Ask
  pub knows : Knowledge
  pub mine : f.speaks ≡ ask.task ∷ []
  pub speaks : knows.speaks ≡ ask.task ∷ []
  pub made : IsMade limits ask knows.seen new
  pub may : MayMakeAsk limits allows knows.seen ask
  pub posts : lane ≡ Holds ask.lane (ask.phase + 1)
  pub waits : told % 2 ≡ 1 → told / 2 ≤ ask.phase
  pub is : w ≡ Asking knows ask

-- what the holder's own lane has is past
abbrev pub LaneIsPast : History → Lane → Type 0
LaneIsPast new (Holds i n) = IsPast new n
LaneIsPast new lane = Unit {0}

-- the view that a turn ends with: at rest, at this history or an earlier one that has all of the
-- giver's own events, or asking still
abbrev pub EndsTurn : Limits → Allows → ℕ → History → Knowledge → Lane → View → Type 0
EndsTurn limits allows told new f lane w =
    ((h : History) × (w ≡ Resting (knowledge h f.speaks)) × OthersCame f.speaks h new
    × LaneIsPast new lane)
    ⊎ StillAsks limits allows told new f lane w

-- what the giver knows of each ask that it read, after its turn: where its wait is still to be
-- made, its phase is not told; where it was made, the board has its value
pub record Leaves (value : List ℤ → Outcome) (new : History) (told : ℕ) (said : Outcome) (a : Ask)
    : Type 0 where
  pub waits : told % 2 ≡ 1 → IsAtPhases new a.task (a.phase + 1) a.phase → told / 2 ≤ a.phase
  pub has : IsAtPhases new a.task (a.phase + 1) (a.phase + 1)
      → said ≡ value_of_phase value new a.phase

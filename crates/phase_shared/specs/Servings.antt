-- A turn of a seat that asked: what it read of others' asks, and what it did so far.
use Rattle.std.specs.Prelude.{◌≡◌, ◌≢◌, ℕ, ◌+◌, ◌<◌, ◌≤◌, List, [], ◌∷◌, ◌++◌, ◌⊎◌, Bool, true, false, Option, Some, None, Result, Ok, Err}
use Rattle.turn_lock.specs.Seats.{Place}
use Rattle.phase_shared.specs.Phasers.{Limits, mode_signals, mode_waits, entry_of, Entry, Operation, StandsForSends, Outcome, SignalRefusal, History, IsAlive, members_of, done_of, value_of_phase, signal_phase, signal_refusal, wait_refusal, OthersCame, CoreState, StandsFor, is_in}
use Rattle.phase_base.specs.Members.{Members}
use Rattle.phase_shared.specs.Regs.{RegState}
use Rattle.phase_history.specs.declared.event.Event.TheVariants.{Signalled, Waited}
use Rattle.phase_shared.specs.declared.seats.view.View.{View}
use Rattle.phase_shared.specs.declared.seats.view.View.TheVariants.{Asking}
use Rattle.phase_shared.specs.declared.seats.request.Request.{Request}
use Rattle.phase_shared.specs.declared.rule.Terms.{Terms}
use Rattle.phase_shared.specs.declared.seats.locked.LockedPhaser.{LockedPhaser}
use Rattle.phase_shared.specs.Asks.{Ask, IsAtPhases, IsUnmade, IsMade, IsAnsweredAsk, Batch, IsOneOf}
use Rattle.phase_shared.specs.Desks.{MayMakeAsk}
use Rattle.phase_shared.specs.Goods.{Allows, IsGood}
use Rattle.phase_shared.specs.Lanes.{sends_of}
use Rattle.phase_shared.specs.LockedPhasers.{locked_place, locked_terms, some_terms}
use Rattle.phase_shared.specs.Rule.{StandsWithin}
use Rattle.phase_shared.specs.Views.{Lane, Own, Holds, knowledge, known_of, resting, owning, turning}

-- what is asked for
abbrev pub ask_of : Request → Ask
ask_of r = record { task = r.task; lane = r.lane; phase = r.phase; sends = sends_of r.send }

-- a request for the next phase of a registration, for what it holds
pub record IsRequestOf {A K : Type 0} (op : Operation A) (r : Request) (reg : RegState A K)
    : Type 0 where
  pub task : r.task ≡ reg.number
  pub signal_at : reg.entry.signal_phase ≡ r.phase
  pub wait_at : reg.entry.wait_phase ≡ r.phase
  pub holds : StandsForSends op reg.held (sends_of r.send)

-- a seat at rest of a task that stands before its next phase and has a lane. Whatever the others
-- do, the phaser's rule allows its signal
pub record MayAsk (limits : Limits) (allows : Allows) (ask : Ask) (v : View) : Type 0 where
  pub rests : v ≡ owning (known_of v).seen (ask.task ∷ []) ask.lane
  pub stands : IsAtPhases (known_of v).seen ask.task ask.phase ask.phase
  pub may : MayMakeAsk limits allows (known_of v).seen ask

-- the task is a waiter
abbrev pub IsWaiterIn : History → ℕ → Type 0
IsWaiterIn h task =
    (e : Entry) → entry_of (members_of h) task ≡ Some e → mode_waits e.mode ≡ true

-- a call for the next phase of a task, on this phaser: what is asked for, and what had been seen
-- when it began
pub record IsCallAt {A K : Type 0} (phaser : LockedPhaser A K) (request : Request)
    (place : Place (Terms K)) (terms : Terms (Option K)) (ask : Ask) : Type 0 where
  pub place_is : locked_place phaser ≡ place
  pub terms_is : terms ≡ some_terms (locked_terms phaser)
  pub ask_is : ask ≡ ask_of request

-- its task waits, and whatever the others do, the phaser's rule allows its signal
pub record MayWait (limits : Limits) (allows : Allows) (ask : Ask) (seen : History) : Type 0 where
  pub alive : IsAlive seen ask.task
  pub waits : IsWaiterIn seen ask.task
  pub may : MayMakeAsk limits allows seen ask

-- its seat at rest, where the call begins
pub record MayGoNext (limits : Limits) (signals : Allows) (ask : Ask) (seen : History) (v : View)
    : Type 0 where
  pub rests : v ≡ resting seen (ask.task ∷ [])
  pub stands : IsAtPhases seen ask.task ask.phase ask.phase
  pub waits : MayWait limits signals ask seen

-- the same, once it knows that its lane is its own
pub record MayAskOn (limits : Limits) (signals : Allows) (ask : Ask) (seen : History) (v : View)
    : Type 0 where
  pub may : MayAsk limits signals ask v
  pub seen_is : seen ≡ (known_of v).seen
  pub waits : MayWait limits signals ask seen

-- a seat that asks
abbrev pub IsAsking : Ask → History → View → Type 0
IsAsking ask seen v = v ≡ Asking (knowledge seen (ask.task ∷ [])) ask

-- a seat that asks, between two calls
pub record AsksAt (limits : Limits) (signals : Allows) (ask : Ask) (seen : History) (v : View)
    : Type 0 where
  pub asks : IsAsking ask seen v
  pub waits : MayWait limits signals ask seen

-- the task is registered as one that signals, and stands before the phase
pub record HasToSignal (members : Members) (task phase : ℕ) : Type 0 where
  pub entry : Entry
  pub member : entry_of members task ≡ Some entry
  pub signals : mode_signals entry.mode ≡ true
  pub signal_at : entry.signal_phase ≡ phase
  pub wait_at : entry.wait_phase ≡ phase

-- the same task has signalled the phase and not waited for it
pub record IsBetween (members : Members) (task phase : ℕ) : Type 0 where
  pub entry : Entry
  pub member : entry_of members task ≡ Some entry
  pub signals : mode_signals entry.mode ≡ true
  pub signal_at : entry.signal_phase ≡ phase + 1
  pub wait_at : entry.wait_phase ≡ phase

module _ {A : Type 0} (op : Operation A) (limits : Limits) (allows : Allows) (ask : Ask) where
  -- what the seat read in its turn, and the events of the turn
  pub record Did : Type 0 where
    pub now : History
    pub claims : List Ask
    pub said : Outcome
    pub lane : Lane
    pub later : History
    pub some : now ≡ [] → ⊥
    pub batch : Batch (IsOneOf claims) (ask.task ∷ []) later now
    pub theirs : (a : Ask) → IsOneOf claims a → is_in a.task (ask.task ∷ []) ≡ false
    pub apart : (a : Ask) → IsOneOf claims a → a.lane ≢ ask.lane
    pub own : (lane ≡ Own ask.lane) ⊎ (lane ≡ Holds ask.lane (ask.phase + 1))

  -- a turn. Where it has not begun to serve, none of the asks that it read is answered; else its
  -- phase is complete, and those for it, in lanes below k, are
  pub record Turned (serves : Bool) (k : ℕ) (v : View) (x : CoreState A) : Type 0 where
    pub did : Did
    pub is : v ≡ turning did.now (ask.task ∷ []) did.claims did.said did.lane
    pub good : IsGood limits allows (did.later ++ did.now)
    pub stands : StandsWithin op limits x (did.later ++ did.now)
    pub quiet : serves ≡ false → (a : Ask) → IsOneOf did.claims a
        → IsAtPhases (did.later ++ did.now) a.task (a.phase + 1) (a.phase + 1) → ⊥
    pub complete : serves ≡ true → ask.phase < done_of (did.later ++ did.now)
    pub served : (a : Ask) → IsOneOf did.claims a → a.lane < k → a.phase ≡ ask.phase
        → IsAtPhases (did.later ++ did.now) a.task (a.phase + 1) (a.phase + 1)

module _ {A : Type 0} (op : Operation A) (limits : Limits) (allows : Allows) (ask : Ask)
    (seen : History) where
  -- at the beginning of a turn: nothing of what it asked for is made
  pub record Starting (v : View) (x : CoreState A) : Type 0 where
    pub turned : Turned op limits allows ask false 0 v x
    pub first : turned.did.later ≡ []
    pub unmade : IsUnmade ask seen turned.did.now
    pub waits : IsWaiterIn turned.did.now ask.task
    pub may : MayMakeAsk limits allows seen ask

  -- its signal is made, and its wait is still to be made
  pub record OwesWait (h : History) : Type 0 where
    pub made : IsMade limits ask seen h
    pub waits : IsWaiterIn h ask.task
    pub may : MayMakeAsk limits allows seen ask

  pub record Serving (serves : Bool) (k : ℕ) (v : View) (x : CoreState A) : Type 0 where
    pub turned : Turned op limits allows ask serves k v x
    pub owes : OwesWait (turned.did.later ++ turned.did.now)

  -- the same, where its phase was open when the turn was taken
  pub record ServingOpen (serves : Bool) (v : View) (x : CoreState A) : Type 0 where
    pub serving : Serving serves 0 v x
    pub was_open : done_of (known_of v).seen ≤ ask.phase
    pub asks : MayWait limits allows ask seen

  -- its wait is made, last of all
  pub record Finished (serves : Bool) (k : ℕ) (outcome : Outcome) (v : View) (x : CoreState A)
      : Type 0 where
    pub turned : Turned op limits allows ask serves k v x
    pub middle : History
    pub last : turned.did.later ++ turned.did.now ≡ Waited ask.task 1 ∷ middle
    pub made : IsMade limits ask seen middle
    pub accepted : wait_refusal limits middle ask.task 1 ≡ None
    pub complete : ask.phase < done_of middle
    pub has : outcome ≡ value_of_phase op.value (Waited ask.task 1 ∷ middle) ask.phase

  -- at the beginning of a turn: others have answered, and the board has the value
  pub record IsAnsweredIn (v : View) (x : CoreState A) : Type 0 where
    pub turned : Turned op limits allows ask false 0 v x
    pub first : turned.did.later ≡ []
    pub lane_is : turned.did.lane ≡ Holds ask.lane (ask.phase + 1)
    pub answered : IsAnsweredAsk limits ask seen turned.did.now
    pub has : turned.did.said ≡ value_of_phase op.value turned.did.now ask.phase

  -- the answer: its signal, others' events, and its wait
  pub record HasAnswer (outcome : Outcome) (w : View) : Type 0 where
    pub middle : History
    pub made : IsMade limits ask seen middle
    pub accepted : wait_refusal limits middle ask.task 1 ≡ None
    pub complete : ask.phase < done_of middle
    pub is : w ≡ resting (Waited ask.task 1 ∷ middle) (ask.task ∷ [])
    pub has : outcome ≡ value_of_phase op.value (Waited ask.task 1 ∷ middle) ask.phase
    pub good : IsGood limits allows (Waited ask.task 1 ∷ middle)

  -- its signal alone, in a phase that is not complete
  pub record HasSignalled (w : View) : Type 0 where
    pub before : History
    pub others : OthersCame (ask.task ∷ []) seen before
    pub accepted : signal_refusal limits before ask.task (ask.sends ∷ []) None ≡ None
    pub signalled_in : signal_phase before ask.task ≡ ask.phase
    pub is_open : done_of (Signalled ask.task (ask.sends ∷ []) None ∷ before) ≤ ask.phase
    pub is : w ≡ resting (Signalled ask.task (ask.sends ∷ []) None ∷ before) (ask.task ∷ [])
    pub good : IsGood limits allows (Signalled ask.task (ask.sends ∷ []) None ∷ before)

  -- its signal is refused
  pub record IsRefused (refusal : SignalRefusal) (w : View) : Type 0 where
    pub now : History
    pub others : OthersCame (ask.task ∷ []) seen now
    pub refused : signal_refusal limits now ask.task (ask.sends ∷ []) None ≡ Some refusal
    pub is : w ≡ resting now (ask.task ∷ [])
    pub good : IsGood limits allows now

  -- how it ends: with the answer, or with a refusal
  abbrev pub HasEnded : Result Outcome SignalRefusal → View → Type 0
  HasEnded (Ok outcome) w = HasAnswer outcome w
  HasEnded (Err refusal) w = IsRefused refusal w

  -- what was asked for is taken back: its signal is made, or it has ended
  abbrev pub HasRested : Result (Option Outcome) SignalRefusal → View → Type 0
  HasRested (Ok None) w = HasSignalled w
  HasRested (Ok (Some outcome)) w = HasAnswer outcome w
  HasRested (Err refusal) w = IsRefused refusal w

-- its phase is complete
abbrev pub IsPhaseDone : {A : Type 0} {op : Operation A} {limits : Limits} {allows : Allows}
    {ask : Ask} {seen : History} {serves : Bool} {k : ℕ} {v : View} {x : CoreState A}
    → Serving op limits allows ask seen serves k v x → Type 0
IsPhaseDone {ask = ask} s = ask.phase < done_of (s.turned.did.later ++ s.turned.did.now)

-- the phase is complete in whatever the core stands for
abbrev pub IsCompleteIn : {A : Type 0} → Operation A → CoreState A → ℕ → Type 0
IsCompleteIn op x phase = (h : History) → StandsFor op x h → phase < done_of h

-- or it is not
abbrev pub IsOpenIn : {A : Type 0} → Operation A → CoreState A → ℕ → Type 0
IsOpenIn op x phase = (h : History) → StandsFor op x h → done_of h ≤ phase

-- it was not, when the turn was taken
abbrev pub WasOpen : View → ℕ → Type 0
WasOpen v phase = done_of (known_of v).seen ≤ phase

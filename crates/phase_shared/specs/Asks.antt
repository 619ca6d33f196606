-- What a registration leaves with whoever has the turn: a signal of its phase, and then a wait.
use Rattle.std.specs.Prelude.{◌≡◌, ℕ, ◌+◌, ◌<◌, List, [], ◌∷◌, ◌++◌, ◌⊎◌, None, Some, Bool, true, false, ◌==◌, ◌||◌}
use Rattle.phase_shared.specs.Phasers.{Limits, is_in, mode_signals, Entry, entry_of, Event, History, members_of, signal_phase, wait_phase, done_of, signal_refusal, wait_refusal, is_by, OthersCame}
use Rattle.phase_history.specs.declared.event.Event.TheVariants.{Signalled, Waited}
pub use Rattle.phase_shared.specs.declared.seats.view.Ask.{Ask}

-- the task is registered as one that signals, at these phases
pub record IsAtPhases (h : History) (task s w : ℕ) : Type 0 where
  pub entry : Entry
  pub member : entry_of (members_of h) task ≡ Some entry
  pub signals : mode_signals entry.mode ≡ true
  pub signal_at : entry.signal_phase ≡ s
  pub wait_at : entry.wait_phase ≡ w

-- nothing of it is in the history
pub record IsUnmade (ask : Ask) (seen h : History) : Type 0 where
  pub others : OthersCame (ask.task ∷ []) seen h
  pub stands : IsAtPhases h ask.task ask.phase ask.phase

-- its signal is, made by whoever had the turn
pub record IsMade (limits : Limits) (ask : Ask) (seen h : History) : Type 0 where
  pub before : History
  pub others : OthersCame (ask.task ∷ []) seen before
  pub accepted : signal_refusal limits before ask.task (ask.sends ∷ []) None ≡ None
  pub signalled_in : signal_phase before ask.task ≡ ask.phase
  pub since : OthersCame (ask.task ∷ []) (Signalled ask.task (ask.sends ∷ []) None ∷ before) h
  pub stands : IsAtPhases h ask.task (ask.phase + 1) ask.phase

-- its signal and its wait are
pub record IsAnsweredAsk (limits : Limits) (ask : Ask) (seen h : History) : Type 0 where
  pub middle : History
  pub made : IsMade limits ask seen middle
  pub accepted : wait_refusal limits middle ask.task 1 ≡ None
  pub complete : ask.phase < done_of middle
  pub below : ask.phase < done_of h
  pub since : OthersCame (ask.task ∷ []) (Waited ask.task 1 ∷ middle) h
  pub stands : IsAtPhases h ask.task (ask.phase + 1) (ask.phase + 1)

-- how far it is
abbrev pub Stage : Limits → Ask → History → History → Type 0
Stage limits ask seen h =
    IsUnmade ask seen h ⊎ (IsMade limits ask seen h ⊎ IsAnsweredAsk limits ask seen h)

-- an event of those that the holder speaks for
abbrev pub IsOwn : List ℕ → Event → Type 0
IsOwn speaks e = (task : ℕ) → is_in task speaks ≡ false → is_by task e ≡ false

-- the signal of an ask that the holder read
pub record SignalsFor (Claimed : Ask → Type 0) (h : History) (e : Event) : Type 0 where
  pub ask : Ask
  pub claimed : Claimed ask
  pub is : e ≡ Signalled ask.task (ask.sends ∷ []) None
  pub at : signal_phase h ask.task ≡ ask.phase

-- the wait of one
pub record WaitsFor (Claimed : Ask → Type 0) (h : History) (e : Event) : Type 0 where
  pub ask : Ask
  pub claimed : Claimed ask
  pub is : e ≡ Waited ask.task 1
  pub signalled : signal_phase h ask.task ≡ ask.phase + 1
  pub at : wait_phase h ask.task ≡ ask.phase

-- what a holder may add to a history
abbrev pub Came : (Ask → Type 0) → List ℕ → History → Event → Type 0
Came Claimed speaks h e = IsOwn speaks e ⊎ (SignalsFor Claimed h e ⊎ WaitsFor Claimed h e)

-- the events of one turn, which take effect at its give
abbrev pub Batch : (Ask → Type 0) → List ℕ → History → History → Type 0
Batch Claimed speaks [] log = Unit {0}
Batch Claimed speaks (e ∷ later) log =
    Batch Claimed speaks later log × Came Claimed speaks (later ++ log) e

-- the ask is one of these
abbrev pub IsOneOf : List Ask → Ask → Type 0
IsOneOf [] a = ⊥
IsOneOf (first ∷ others) a = (first ≡ a) ⊎ IsOneOf others a

-- whether the task asked for any of these
abbrev pub asks_for : List Ask → ℕ → Bool
asks_for [] task = false
asks_for (first ∷ others) task = (first.task == task) || asks_for others task

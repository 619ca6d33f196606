-- What a call adds to its task's own part of the history: to what the task has received, and to
-- what it has sent.
use Rattle.std.specs.Prelude.{◌≡◌, ℕ, ℤ, List, [], ◌∷◌, ◌++◌, Option, Some, None, true, false}
use Rattle.phase_shared.specs.Phasers.{mode_signals, Operation, Parcel, StandsForSends, Outcome, Got, History, received_by, sent_by}
use Rattle.phase_history.specs.declared.got.Got.TheVariants.{Value, Ended}
use Rattle.phase_shared.specs.declared.next.Next.{Next}
use Rattle.phase_shared.specs.Regs.{RegState}

-- a list after a wait got this
abbrev pub with_got : List Outcome → Got → List Outcome
with_got list (Value phase outcome) = list ++ outcome ∷ []
with_got list Ended = list

-- a list after a next phase got this, or did not wait
abbrev pub with_any : List Outcome → Option Got → List Outcome
with_any list (Some got) = with_got list got
with_any list None = list

-- the task has received and sent what it had before
pub record PartStays (task : ℕ) (old new : History) : Type 0 where
  pub received : (value : List ℤ → Outcome)
      → received_by value new task ≡ received_by value old task
  pub sent : sent_by new task ≡ sent_by old task

-- the task has received nothing and sent nothing
pub record HasNoPart (task : ℕ) (h : History) : Type 0 where
  pub received : (value : List ℤ → Outcome) → received_by value h task ≡ []
  pub sent : sent_by h task ≡ []

-- the task has sent one list more, of sends that it held
pub record SendsHeld {A : Type 0} (op : Operation A) (task : ℕ) (held : Parcel A)
    (old new : History) : Type 0 where
  pub sends : List ℤ
  pub stands : StandsForSends op held sends
  pub sent : sent_by new task ≡ sent_by old task ++ sends ∷ []

-- the task has received what its wait got, and sent no more
pub record Gets (value : List ℤ → Outcome) (task : ℕ) (got : Got) (old new : History)
    : Type 0 where
  pub received : received_by value new task ≡ with_got (received_by value old task) got
  pub sent : sent_by new task ≡ sent_by old task

-- the task has received what its wait got, where its mode waits, and sent what it held, where its
-- mode signals
pub record SendsAndGets {A K : Type 0} (op : Operation A) (old : RegState A K) (new : History)
    (next : Next) : Type 0 where
  pub received : received_by op.value new old.number
      ≡ with_any (received_by op.value old.seen old.number) next.got
  pub sent : mode_signals old.entry.mode ≡ true
      → SendsHeld op old.number old.held old.seen new
  pub silent : mode_signals old.entry.mode ≡ false
      → sent_by new old.number ≡ sent_by old.seen old.number

-- Whose an event is, and how a history grows while some tasks make no call.
use Rattle.std.specs.Prelude.{◌≡◌, ℕ, List, [], ◌∷◌, ◌++◌, Bool, true, false, ◌==◌, IsSome, length}
use Rattle.std.specs.List.{filter}
use Rattle.phase_base.specs.Lists.{is_in}
use Rattle.phase_history.specs.declared.event.Event.{Event}
use Rattle.phase_history.specs.declared.event.Event.TheVariants.{Made, Registered, RegisteredNow, Signalled, Waited, Dropped}
use Rattle.phase_history.specs.Histories.{History, start_of}

-- whether the event is the task's: that it registered a child, signalled, waited or dropped. That
-- the phaser was made is nobody's event
abbrev pub is_by : ℕ → Event → Bool
is_by task (Made founding) = false
is_by task (Registered parent child mode) = parent == task
is_by task (RegisteredNow parent child) = parent == task
is_by task (Signalled signaller lists single) = signaller == task
is_by task (Waited waiter phases) = waiter == task
is_by task (Dropped gone) = gone == task

-- the task's own events, in the order of the history
abbrev pub events_of : ℕ → History → History
events_of task h = filter (is_by task) h

-- the numbers that events give to children, the last one first
abbrev pub children_in : History → List ℕ
children_in [] = []
children_in (Registered parent child mode ∷ before) = child ∷ children_in before
children_in (RegisteredNow parent child ∷ before) = child ∷ children_in before
children_in (event ∷ before) = children_in before

-- how many phases an event signals
abbrev pub phases_of_signal : Event → ℕ
phases_of_signal (Signalled signaller lists single) = length lists
phases_of_signal event = 0

-- how many phases an event waits for
abbrev pub phases_of_wait : Event → ℕ
phases_of_wait (Waited waiter phases) = phases
phases_of_wait event = 0

-- the number was given to a task, which made the phaser or was registered
abbrev pub IsUsed : History → ℕ → Type 0
IsUsed h task = IsSome (start_of h task)

-- no number was used but these
abbrev pub OnlyUsed : List ℕ → History → Type 0
OnlyUsed tasks h = (task : ℕ) → IsUsed h task → is_in task tasks ≡ true

-- the new history is the old one and then events that are none of these tasks'
pub record OthersCame (tasks : List ℕ) (old new : History) : Type 0 where
  pub later : History
  pub is : new ≡ later ++ old
  pub others : (task : ℕ) → is_in task tasks ≡ true → events_of task later ≡ []

-- What a task that has left all its phasers knows, by a moment of its own, and what the founder of
-- a phaser knows that has left it.
use Rattle.std.specs.Prelude.{◌≡◌, ℕ, ◌<◌, ◌≤◌, ℤ, List, [], ◌∷◌, length, get_or, slice_get, Some, true, false}
use Rattle.std.specs.List.{All}
use Rattle.phase_history.specs.declared.event.Event.TheVariants.{Made, Signalled}
use Rattle.phase_history.specs.Histories.{History, IsBeginning, has_dropped}
use Rattle.phase_history.specs.Phases.{received_by}
use Rattle.phase_history.specs.Others.{events_of, children_in}
use Rattle.phase_base.specs.Lists.{is_in}
use Rattle.phase_history.specs.Sent.{NamesAll}
use Rattle.graph_base.specs.declared.line.Kind.TheVariants.{Sink}
use Rattle.graph_base.specs.declared.line.Parent.{Parent}
use Rattle.graph_base.specs.Graphs.{task_at, phaser_at}
use Rattle.stream_lists.specs.Jobs.{Job}
use Rattle.stream_lists.specs.Ranges.{is_too_big}
use Rattle.graph_runs.specs.Moments.{Moment, value_at, OnLine}
use Rattle.graph_runs.specs.Parts.{HasPart}
use Rattle.graph_runs.specs.Beginnings.{opening}
use Rattle.graph_runs.specs.Nexts.{registrations_at}
use Rattle.graph_runs.specs.TaskPlaces.{TaskPlace, StandsUpTo, registration_at}

-- ---- a task's own calls

-- task c is a child of task t, which comes after so many steps of it
pub record IsChildOf (job : Job) (c t : ℕ) : Type 0 where
  pub there : c < length job.graph.tasks
  pub parent : Parent
  pub has : (task_at job.graph c).parent ≡ Some parent
  pub by : parent.task ≡ t

-- task t gave number a on phaser p to one of its children
pub record HasGiven (job : Job) (m : Moment) (t p a : ℕ) : Type 0 where
  pub child : ℕ
  pub is_child : IsChildOf job child t
  pub numbered : m.number p child ≡ Some a

-- what the calls of task t were, up to a moment of its own: it began where the opening says, but
-- for a sink that joins now, and so did its parent; a child began when its parent had begun as many
-- steps as it comes after; its signals named the single of each phaser; no wait was answered a
-- value that is too big; and whom it registered are its children
pub record HasOwnCalls (job : Job) (m : Moment) (t : ℕ) : Type 0 where
  pub offset : (task_at job.graph t).joins_now ≡ false → m.offset t ≡ (opening job).offset t
  pub above : (u : Parent) → (task_at job.graph t).parent ≡ Some u
      → m.offset u.task ≡ (opening job).offset u.task
  pub parent : (u : Parent) → (task_at job.graph t).parent ≡ Some u → m.begun u.task ≡ u.at
  pub named : (p n : ℕ) → m.number p t ≡ Some n
      → NamesAll (phaser_at job.graph p).single (events_of n (m.history p))
  pub met_none : (p n : ℕ) → m.number p t ≡ Some n
      → All (λ outcome. is_too_big outcome ≡ false)
      (received_by (value_at job p) (m.history p) n)
  pub children : (p n a : ℕ) → m.number p t ≡ Some n
      → is_in a (children_in (events_of n (m.history p))) ≡ true → HasGiven job m t p a

-- task t has these numbers, in the order of its registrations, and no others
pub record HasNumbers (job : Job) (m : Moment) (t : ℕ) (numbers : List ℕ) : Type 0 where
  pub few : length numbers ≤ length (registrations_at job t)
  pub numbered : (i : ℕ) → i < length (registrations_at job t)
      → m.number (registration_at job t i).phaser t ≡ slice_get numbers i
  pub lines : (p n : ℕ) → m.number p t ≡ Some n → OnLine (task_at job.graph t) p

-- ---- a task that has left

-- a task that has left: how many steps it has begun; the phase at which it began, where it joined
-- now; its numbers, and what it has seen of each phaser, in the order of its registrations; what it
-- has taken, where it is a sink; and the numbers that it gave to each task that it registered
pub record TaskEnd : Type 0 where
  pub task : ℕ
  pub begun : ℕ
  pub start : ℕ
  pub numbers : List ℕ
  pub seen : List History
  pub lines : List ℤ
  pub given : ℕ → List ℕ

-- at this moment of its own the task has left all its phasers, and knows this
pub record HasLeftAt (job : Job) (m : Moment) (end : TaskEnd) : Type 0 where
  pub part : HasPart job m end.task
  pub own : HasOwnCalls job m end.task
  pub most : ℕ
  pub at : TaskPlace
  pub stands : StandsUpTo most job m end.task at
  pub begun : at.begun ≡ end.begun
  pub start : (task_at job.graph end.task).joins_now ≡ true → m.offset end.task ≡ end.start
  pub numbers : at.numbers ≡ end.numbers
  -- it was registered on all its phasers, and has left them all
  pub whole : length end.numbers ≡ length (registrations_at job end.task)
  pub left : at.left ≡ length end.numbers
  pub long : length end.seen ≡ length (registrations_at job end.task)
  pub seen : (i : ℕ) → i < length (registrations_at job end.task)
      → m.history (registration_at job end.task i).phaser ≡ get_or end.seen i []
  pub lines : (task_at job.graph end.task).kind ≡ Sink → m.taken end.task 0 ≡ end.lines
  pub given : (c : ℕ) → IsChildOf job c end.task → HasNumbers job m c (end.given c)

-- ---- a founder

-- none of these events is a signal
abbrev pub HasNoSignal : History → Type 0
HasNoSignal [] = Unit {0}
HasNoSignal (Signalled task lists single ∷ before) = ⊥
HasNoSignal (event ∷ before) = HasNoSignal before

-- the founder of a phaser made it, has signalled nothing, and registered tasks under these numbers
-- alone
pub record HasFounded (number : ℕ) (gave : List ℕ) (h : History) : Type 0 where
  pub made : IsBeginning (Made number ∷ []) h
  pub silent : HasNoSignal (events_of number h)
  pub gave_these : (a : ℕ) → is_in a (children_in (events_of number h)) ≡ true → is_in a gave ≡ true

-- a founder that has left: its number, those that it gave, and what it has seen
pub record FounderEnd : Type 0 where
  pub number : ℕ
  pub gave : List ℕ
  pub seen : History

-- it has founded its phaser and has left it
pub record HasFoundedAndLeft (end : FounderEnd) : Type 0 where
  pub founded : HasFounded end.number end.gave end.seen
  pub left : has_dropped end.seen end.number ≡ true

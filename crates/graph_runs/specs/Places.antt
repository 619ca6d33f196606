-- How the place of a task stands by what its calls leave of its part, and how a task begins: a root
-- by its founder, and a child while its parent registers it.
use Rattle.std.specs.Prelude.{◌≡◌, ◌≢◌, ℕ, suc, ◌+◌, ◌<◌, ◌≤◌, List, [], ◌∷◌, ◌++◌, length, Some, None, is_some, true, false, ◌⊎◌}
use Rattle.phase_history.specs.declared.event.Event.{Event}
use Rattle.phase_history.specs.declared.event.Event.TheVariants.{Made, Registered}
use Rattle.phase_history.specs.Histories.{History, IsBeginning}
use Rattle.phase_history.specs.Legal.{IsLegal}
use Rattle.phase_history.specs.Others.{events_of}
use Rattle.graph_base.specs.declared.line.Parent.{Parent}
use Rattle.graph_base.specs.Graphs.{task_at}
use Rattle.graph_base.specs.declared.registration.Registration.{Registration}
use Rattle.stream_lists.specs.Jobs.{Job}
use Rattle.graph_runs.specs.Moments.{Moment, AtMost, OnLine, limits_at}
use Rattle.graph_runs.specs.Moves.{SameTask, IsBlock}
use Rattle.graph_runs.specs.Beginnings.{opening}
use Rattle.graph_runs.specs.Nexts.{comes_by, registrations_at}
use Rattle.graph_runs.specs.TaskPlaces.{Owed, TaskPlace, StandsUpTo, registration_at, at_start}
use Rattle.graph_runs.specs.Parts.{HasPart, HasSeen}

-- ---- places

-- the place of a task that owes this now
abbrev pub owing : Owed → TaskPlace → TaskPlace
owing owed at = record at { owed = owed }

-- the place of a task that has begun so many steps more, and owes this of them
abbrev pub after_steps : ℕ → Owed → TaskPlace → TaskPlace
after_steps steps owed at = record at { begun = at.begun + steps; owed = owed }

-- the place of a task that has left one phaser more
abbrev pub after_leaving : TaskPlace → TaskPlace
after_leaving at = record at { left = suc at.left }

-- task t has its number for each of its registrations
abbrev pub IsNumbered : Job → Moment → ℕ → Type 0
IsNumbered job m t = (i : ℕ) → i < length (registrations_at job t)
    → is_some (m.number (registration_at job t i).phaser t) ≡ true

-- each child of task t that comes after so many of its steps has all its numbers
abbrev pub HasChildrenBy : Job → Moment → ℕ → ℕ → Type 0
HasChildrenBy job m t steps = (c : ℕ) → c < length job.graph.tasks
    → comes_by t steps (task_at job.graph c).parent ≡ true → IsNumbered job m c

-- task t, which has begun so many steps, may make so many more in one event: `until` allows them,
-- and none of its children comes before the last of them
pub record MayMake (job : Job) (t begun steps : ℕ) : Type 0 where
  pub cut : AtMost (begun + steps) (task_at job.graph t).until
  pub children : (c : ℕ) (u : Parent) → c < length job.graph.tasks
      → (task_at job.graph c).parent ≡ Some u → u.task ≡ t → begun < u.at
      → begun + steps ≤ u.at

-- a number of steps that task t may make at most in one event: one, or more where its kind has
-- blocks
pub record IsMost (job : Job) (t most : ℕ) : Type 0 where
  pub some : 1 ≤ most
  pub block : IsBlock (task_at job.graph t).kind most

-- ---- a root

-- these events are registrations alone
abbrev pub AreRegistrations : List Event → Type 0
AreRegistrations [] = Unit {0}
AreRegistrations (Registered parent child mode ∷ events) = AreRegistrations events
AreRegistrations (event ∷ events) = ⊥

-- the founder, number 0, which has registered tasks alone, has registered one as number n on the
-- phaser of this registration, and this event is the last that was seen
pub record IsRootOn (job : Job) (r : Registration) (n : ℕ) (seen : History) : Type 0 where
  pub before : History
  pub is : seen ≡ Registered 0 n r.mode ∷ before
  pub legal : IsLegal (limits_at job r.phaser) seen
  pub made : IsBeginning (Made 0 ∷ []) before
  pub founder : AreRegistrations (events_of 0 before)

-- the first moment of a task's own: it has these numbers in the order of its registrations, and has
-- seen these histories on their phasers; no other task has a number, and all begin where they do at
-- the opening of the run
pub record IsFirstMoment (job : Job) (m : Moment) (t : ℕ) (numbers : List ℕ) (seen : ℕ → History)
    : Type 0 where
  pub part : HasPart job m t
  pub place : (most : ℕ) → StandsUpTo most job m t (at_start numbers)
  pub history : (i : ℕ) → i < length (registrations_at job t)
      → m.history (registration_at job t i).phaser ≡ seen i
  pub others : (p u : ℕ) → u ≢ t → m.number p u ≡ None
  pub offset : (u : ℕ) → m.offset u ≡ (opening job).offset u
  pub nothing_put : (j : ℕ) → m.put t j ≡ []
  pub nothing_taken : (k : ℕ) → m.taken t k ≡ []

-- ---- a child

-- task c has these numbers so far, on the first of its registrations, and has done nothing
pub record IsJoining (job : Job) (m : Moment) (c : ℕ) (numbers : List ℕ) : Type 0 where
  pub part : HasPart job m c
  pub place : (most : ℕ) → StandsUpTo most job m c (at_start numbers)
  pub nothing_put : (j : ℕ) → m.put c j ≡ []
  pub nothing_taken : (k : ℕ) → m.taken c k ≡ []

-- the moment of task t serves its child c as well, which has these numbers so far: for task t all
-- is as it was but what it knows of how far others are
pub record HasNewChild (job : Job) (before after : Moment) (t c : ℕ) (numbers : List ℕ) : Type
    0 where
  pub part : HasPart job after t
  pub same : SameTask before after t
  pub place : (most : ℕ) (at : TaskPlace) → StandsUpTo most job before t at
      → StandsUpTo most job after t at
  pub child : IsJoining job after c numbers
  pub history : (q : ℕ) → after.history q ≡ before.history q
  pub numbers_stay : (q u : ℕ) → after.number q u ≡ before.number q u
  pub offset : (u : ℕ) → after.offset u ≡ before.offset u
  pub others_begun : (u : ℕ) → u ≢ c → after.begun u ≡ before.begun u

-- task t has seen others' events on phaser p, where its child c has no number yet
pub record HasSeenBoth (job : Job) (before after : Moment) (t c p : ℕ) (numbers : List ℕ)
    (now : History) : Type 0 where
  pub seen : HasSeen job before after t p now
  pub place : (most : ℕ) (at : TaskPlace) → StandsUpTo most job before t at
      → StandsUpTo most job after t at
  pub child : IsJoining job after c numbers

-- task t has registered its child c as number a on phaser p, whose history is this now
pub record HasAddedChild (job : Job) (before after : Moment) (t c p a : ℕ) (numbers : List ℕ)
    (now : History) : Type 0 where
  pub part : HasPart job after t
  pub same : SameTask before after t
  pub place : (most : ℕ) (at : TaskPlace) → StandsUpTo most job before t at
      → StandsUpTo most job after t at
  pub child : IsJoining job after c (numbers ++ a ∷ [])
  pub here : after.history p ≡ now
  pub elsewhere : (q : ℕ) → q ≢ p → after.history q ≡ before.history q
  pub number : after.number p c ≡ Some a
  pub other_numbers : (q u : ℕ) → (q ≢ p) ⊎ (u ≢ c) → after.number q u ≡ before.number q u
  pub offset : (u : ℕ) → after.offset u ≡ before.offset u
  pub begun : (u : ℕ) → after.begun u ≡ before.begun u

-- task t has registered its child c, a sink that joins now, as number a on phaser p, whose history
-- is this now: it begins at this phase
pub record HasAddedNow (job : Job) (before after : Moment) (t c p a start : ℕ) (now : History)
    : Type 0 where
  pub part : HasPart job after t
  pub same : SameTask before after t
  pub place : (most : ℕ) (at : TaskPlace) → StandsUpTo most job before t at
      → StandsUpTo most job after t at
  pub child : IsJoining job after c (a ∷ [])
  pub here : after.history p ≡ now
  pub elsewhere : (q : ℕ) → q ≢ p → after.history q ≡ before.history q
  pub number : after.number p c ≡ Some a
  pub other_numbers : (q u : ℕ) → (q ≢ p) ⊎ (u ≢ c) → after.number q u ≡ before.number q u
  pub start_is : after.offset c ≡ start
  pub offset : (u : ℕ) → u ≢ c → after.offset u ≡ before.offset u
  pub begun : (u : ℕ) → after.begun u ≡ before.begun u

-- ---- other tasks

-- what a moment of task t's own says of others: each begins where it does at the opening of the
-- run, but for a sink that joins now; the children of task t have numbers on the phasers of their
-- lines alone; and no child of a task behind it has a number
pub record KnowsOthers (job : Job) (m : Moment) (t : ℕ) : Type 0 where
  pub offset : (u : ℕ) → (task_at job.graph u).joins_now ≡ false
      → m.offset u ≡ (opening job).offset u
  pub lines : (p c n : ℕ) (u : Parent) → c < length job.graph.tasks
      → (task_at job.graph c).parent ≡ Some u → u.task ≡ t → m.number p c ≡ Some n
      → OnLine (task_at job.graph c) p
  pub unregistered : (p d : ℕ) (u : Parent) → d < length job.graph.tasks
      → (task_at job.graph d).parent ≡ Some u → t < u.task → m.number p d ≡ None

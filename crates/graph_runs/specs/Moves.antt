-- How a moment changes: what others' events leave of a task, and one event of one task.
use Rattle.std.specs.Prelude.{◌≡◌, ◌≢◌, ℕ, suc, ◌+◌, ◌<◌, ◌≤◌, ℤ, List, [], ◌∷◌, ◌++◌, length, map, Some, None, true, false, ◌⊎◌}
use mathlib.Core.List.{IsPrefix}
use Rattle.phase_base.specs.Modes.{mode_signals, mode_waits}
use Rattle.phase_base.specs.declared.mode.Mode.{Mode}
use Rattle.phase_accum.specs.declared.outcome.Outcome.{Outcome}
use Rattle.phase_history.specs.declared.event.Event.{Event}
use Rattle.phase_history.specs.declared.event.Event.TheVariants.{Registered, RegisteredNow, Signalled, Waited, Dropped}
use Rattle.phase_history.specs.Histories.{History, IsBeginning, has_dropped, phases_signalled, done_of}
use Rattle.phase_history.specs.Phases.{received_by}
use Rattle.phase_history.specs.Sent.{sent_by}
use Rattle.phase_history.specs.Legal.{IsLegal, IsAccepted}
use Rattle.graph_base.specs.declared.line.Parent.{Parent}
use Rattle.graph_base.specs.Graphs.{task_at, phaser_at}
use Rattle.graph_base.specs.declared.line.Kind.TheVariants.{Source, Fir, Peer, Sink}
use Rattle.graph_base.specs.declared.line.Kind.{Kind}
use Rattle.stream_lists.specs.Jobs.{Job, samples_at, index_in}
use Rattle.stream_lists.specs.Spans.{signalled_by, takes_from}
use Rattle.stream_lists.specs.Lists.{number}
use Rattle.graph_runs.specs.Moments.{one, Moment, limits_at, value_at, input_at, made_now, first_input, IsRegistered, AtMost, HasSamples, HasExchanged, HasEnded, OnLine}

-- what a moment says of a task apart from the histories
pub record SameTask (before after : Moment) (t : ℕ) : Type 0 where
  pub offset : after.offset t ≡ before.offset t
  pub begun : after.begun t ≡ before.begun t
  pub taken : (k : ℕ) → after.taken t k ≡ before.taken t k
  pub put : (j : ℕ) → after.put t j ≡ before.put t j

-- the histories of the phasers on the line of task t grew
pub record HasGrown (job : Job) (before after : Moment) (t : ℕ) : Type 0 where
  pub was : (p : ℕ) → OnLine (task_at job.graph t) p → IsLegal (limits_at job p) (before.history p)
  pub legal : (p : ℕ) → OnLine (task_at job.graph t) p → IsLegal (limits_at job p) (after.history p)
  pub beginning : (p : ℕ) → OnLine (task_at job.graph t) p
      → IsBeginning (before.history p) (after.history p)

-- a number's own part of a history is the same in both
pub record PartStays (n : ℕ) (old new : History) : Type 0 where
  pub sent : sent_by new n ≡ sent_by old n
  pub dropped : has_dropped new n ≡ has_dropped old n
  pub signalled : phases_signalled new n ≡ phases_signalled old n
  pub received : (value : List ℤ → Outcome) → received_by value new n ≡ received_by value old n

-- what happened was others' doing, or task t registered a child: task t is as it was, its part of
-- each phaser is the same, no child lost its number, and its parent moved on at most
pub record OthersMoved (job : Job) (before after : Moment) (t : ℕ) : Type 0 where
  pub same : SameTask before after t
  pub number : (p : ℕ) → after.number p t ≡ before.number p t
  pub part : (p n : ℕ) → before.number p t ≡ Some n
      → PartStays n (before.history p) (after.history p)
  pub children : (c p : ℕ) (u : Parent) → c < length job.graph.tasks
      → (task_at job.graph c).parent ≡ Some u → u.task ≡ t
      → after.number p c ≡ None → before.number p c ≡ None
  pub parent : (u : Parent) → (task_at job.graph t).parent ≡ Some u
      → (after.offset u.task ≡ before.offset u.task) × (before.begun u.task ≤ after.begun u.task)
      × (IsRegistered before u.task → IsRegistered after u.task)

-- ---- one event of one task

-- an event came on phaser p and on no other, no task got a number, and the other tasks are as they
-- were; the offset of task t stays, and its steps go on
pub record HasMoved (job : Job) (before after : Moment) (t p : ℕ) (event : Event) : Type 0 where
  pub accepted : IsAccepted (limits_at job p) (before.history p) event
  pub here : after.history p ≡ event ∷ before.history p
  pub elsewhere : (q : ℕ) → q ≢ p → after.history q ≡ before.history q
  pub offset : after.offset t ≡ before.offset t
  pub onward : before.begun t ≤ after.begun t
  pub others : (u : ℕ) → u ≢ t → SameTask before after u
  pub numbers : (q u : ℕ) → after.number q u ≡ before.number q u

-- the task has left none of its phasers
abbrev pub IsStaying : Moment → ℕ → Type 0
IsStaying m t = (p n : ℕ) → m.number p t ≡ Some n → has_dropped (m.history p) n ≡ false

-- the child of task t at this boundary is registered on phaser p, where task t is
abbrev pub NoneDue : Job → Moment → ℕ → ℕ → Type 0
NoneDue job m t p = (c n : ℕ) (u : Parent) → c < length job.graph.tasks
    → (task_at job.graph c).parent ≡ Some u → u.task ≡ t
    → m.number p t ≡ Some n → m.number p c ≡ None → OnLine (task_at job.graph c) p
    → m.begun t < u.at

-- so many more as the list has places
abbrev pub further : {X : Type 0} → ℕ → List X → ℕ
further n [] = n
further n (x ∷ xs) = suc (further n xs)

-- no child of task t comes before so many steps are begun that is not registered on phaser p, where
-- task t is
abbrev pub NoneBefore : Job → Moment → ℕ → ℕ → ℕ → Type 0
NoneBefore job m t steps p = (c n : ℕ) (u : Parent) → c < length job.graph.tasks
    → (task_at job.graph c).parent ≡ Some u → u.task ≡ t
    → m.number p t ≡ Some n → m.number p c ≡ None → OnLine (task_at job.graph c) p
    → steps ≤ u.at

-- task t may go on until it has begun so many steps: it has taken all that its begun steps take,
-- `until` and its samples allow as many, and no child comes before
pub record MayBeginTo (job : Job) (m : Moment) (t steps : ℕ) : Type 0 where
  pub taken : (k : ℕ) → k < length (task_at job.graph t).inputs
      → length (m.taken t k) ≡ takes_from (task_at job.graph t) (m.begun t) k
  pub cut : AtMost steps (task_at job.graph t).until
  pub samples : HasSamples (task_at job.graph t).kind steps (length (samples_at job t))
  pub children : (p : ℕ) → NoneBefore job m t steps p

-- it may begin its next step
abbrev pub MayBegin : Job → Moment → ℕ → Type 0
MayBegin job m t = MayBeginTo job m t (suc (m.begun t))

-- a source, a filter and a sink may make several steps in a block; of other tasks a block is a step
abbrev pub IsBlock : Kind → ℕ → Type 0
IsBlock Source steps = Unit {0}
IsBlock Fir steps = Unit {0}
IsBlock Sink steps = Unit {0}
IsBlock kind steps = steps ≡ 1

-- task t, as number n on phaser p, which is its output number j, signals these values, one a phase
pub record SignalsAll (job : Job) (before after : Moment) (t j p n : ℕ) (vs : List ℤ) : Type 0 where
  pub moved : HasMoved job before after t p
      (Signalled n (map one vs) (phaser_at job.graph p).single)
  pub numbered : before.number p t ≡ Some n
  pub place : index_in (signalled_by (task_at job.graph t)) p ≡ Some j
  pub staying : IsStaying before t
  pub taken : (k : ℕ) → after.taken t k ≡ before.taken t k
  pub put : after.put t j ≡ before.put t j ++ vs
  pub other_puts : (i : ℕ) → i ≢ j → after.put t i ≡ before.put t i
  -- the source's signal begins its steps
  pub begun : ((task_at job.graph t).kind ≡ Source)
      × (after.begun t ≡ further (before.begun t) vs)
      × MayBeginTo job before t (further (before.begun t) vs)
      ⊎ (after.begun t ≡ before.begun t)
  -- they are the next entries of what it makes
  pub made : IsPrefix (after.put t j) (made_now job after t j)
  pub exchanged : HasExchanged (task_at job.graph t).kind j (length (after.put t j))
      (length (after.taken t 1))

-- it signals one value
abbrev pub Signals : Job → Moment → Moment → ℕ → ℕ → ℕ → ℕ → ℤ → Type 0
Signals job before after t j p n v = SignalsAll job before after t j p n (v ∷ [])

-- task t, as number n on phaser p, which is its input number k, waits and is answered these
-- outcomes
pub record WaitsAll (job : Job) (before after : Moment) (t k p n : ℕ) (outcomes : List Outcome)
    : Type 0 where
  pub moved : HasMoved job before after t p (Waited n (length outcomes))
  pub numbered : before.number p t ≡ Some n
  pub few : k < length (task_at job.graph t).inputs
  pub place : input_at (task_at job.graph t) k ≡ p
  pub staying : IsStaying before t
  pub answered : received_by (value_at job p) (Waited n (length outcomes) ∷ before.history p) n
      ≡ received_by (value_at job p) (before.history p) n ++ outcomes
  pub taken : after.taken t k ≡ before.taken t k ++ map number outcomes
  pub other_takes : (i : ℕ) → i ≢ k → after.taken t i ≡ before.taken t i
  pub put : (j : ℕ) → after.put t j ≡ before.put t j
  -- the first wait of steps begins them; a peer's second does not
  pub begun : (k ≡ first_input (task_at job.graph t) (before.begun t))
      × (after.begun t ≡ further (before.begun t) outcomes)
      × IsBlock (task_at job.graph t).kind (length outcomes)
      × MayBeginTo job before t (further (before.begun t) outcomes)
      ⊎ ((task_at job.graph t).kind ≡ Peer) × (k ≡ 1) × (length outcomes ≡ 1)
      × (after.begun t ≡ before.begun t) × (length (before.taken t 1) < before.begun t)

-- it is answered one outcome
abbrev pub Waits : Job → Moment → Moment → ℕ → ℕ → ℕ → ℕ → Outcome → Type 0
Waits job before after t k p n outcome = WaitsAll job before after t k p n (outcome ∷ [])

-- task t, as number n on phaser p, leaves at its last boundary, when no child is due there
pub record Leaves (job : Job) (before after : Moment) (t p n : ℕ) : Type 0 where
  pub moved : HasMoved job before after t p (Dropped n)
  pub numbered : before.number p t ≡ Some n
  pub same : SameTask before after t
  pub ended : HasEnded job before t
  pub children : NoneDue job before t p

-- task t, as number n on phaser p, registers there its child, task c, as number a, at the child's
-- boundary; the child has made no step
pub record Registers (job : Job) (before after : Moment) (t p n c a : ℕ) (mode : Mode) (u : Parent)
    : Type 0 where
  pub child : c < length job.graph.tasks
  pub parent : (task_at job.graph c).parent ≡ Some u
  pub by : u.task ≡ t
  pub on_line : OnLine (task_at job.graph c) p
  pub numbered : before.number p t ≡ Some n
  pub absent : before.number p c ≡ None
  pub accepted : IsAccepted (limits_at job p) (before.history p) (Registered n a mode)
  pub here : after.history p ≡ Registered n a mode ∷ before.history p
  pub elsewhere : (q : ℕ) → q ≢ p → after.history q ≡ before.history q
  pub same : (x : ℕ) → SameTask before after x
  pub number : after.number p c ≡ Some a
  pub other_numbers : (q x : ℕ) → (q ≢ p) ⊎ (x ≢ c) → after.number q x ≡ before.number q x
  pub signals : (j : ℕ) → index_in (signalled_by (task_at job.graph c)) p ≡ Some j
      → mode_signals mode ≡ true
  pub waits : (k : ℕ) → k < length (task_at job.graph c).inputs
      → input_at (task_at job.graph c) k ≡ p → mode_waits mode ≡ true
  pub boundary : before.begun t ≡ u.at
  pub offset : before.offset c ≡ before.offset t + u.at
  pub nothing_put : (j : ℕ) → index_in (signalled_by (task_at job.graph c)) p ≡ Some j
      → before.put c j ≡ []
  pub nothing_taken : (k : ℕ) → k < length (task_at job.graph c).inputs
      → input_at (task_at job.graph c) k ≡ p → before.taken c k ≡ []
  pub nothing_begun : before.begun c ≡ 0
  -- the parent has put and taken all that its steps do
  pub all_put : (i : ℕ) → index_in (signalled_by (task_at job.graph t)) p ≡ Some i
      → length (before.put t i) ≡ before.begun t
  pub all_taken : (k : ℕ) → k < length (task_at job.graph t).inputs
      → input_at (task_at job.graph t) k ≡ p → length (before.taken t k) ≡ before.begun t

-- task t, as number n on phaser p, registers there its child, task c, a sink that joins now, as
-- number a, at the child's boundary or later; the child begins at the first phase that is not
-- complete
pub record RegistersNow (job : Job) (before after : Moment) (t p n c a : ℕ) (u : Parent) : Type
    0 where
  pub child : c < length job.graph.tasks
  pub now : (task_at job.graph c).joins_now ≡ true
  pub parent : (task_at job.graph c).parent ≡ Some u
  pub by : u.task ≡ t
  pub on_line : OnLine (task_at job.graph c) p
  pub numbered : before.number p t ≡ Some n
  pub absent : before.number p c ≡ None
  pub accepted : IsAccepted (limits_at job p) (before.history p) (RegisteredNow n a)
  pub here : after.history p ≡ RegisteredNow n a ∷ before.history p
  pub elsewhere : (q : ℕ) → q ≢ p → after.history q ≡ before.history q
  pub same : (x : ℕ) → x ≢ c → SameTask before after x
  pub number : after.number p c ≡ Some a
  pub other_numbers : (q x : ℕ) → (q ≢ p) ⊎ (x ≢ c) → after.number q x ≡ before.number q x
  pub boundary : before.begun t ≡ u.at
  pub offset : after.offset c ≡ done_of (before.history p)
  pub nothing_begun : after.begun c ≡ 0
  pub nothing_taken : (k : ℕ) → after.taken c k ≡ []
  -- the parent has taken all that its steps do
  pub all_taken : (k : ℕ) → k < length (task_at job.graph t).inputs
      → input_at (task_at job.graph t) k ≡ p → length (before.taken t k) ≡ before.begun t

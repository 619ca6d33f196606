-- A moment after one event, as a function of the moment before, and when the event is the next one.
use Rattle.std.specs.Prelude.{◌≡◌, ℕ, suc, ◌+◌, ◌<◌, ℤ, pos, List, [], ◌∷◌, ◌++◌, length, map, take, drop, get_or, Some, None, true, if◌then◌else◌, ◌==◌}
use mathlib.Core.List.{IsPrefix}
use Rattle.phase_base.specs.Modes.{mode_signals, mode_waits}
use Rattle.phase_base.specs.declared.mode.Mode.{Mode}
use Rattle.phase_base.specs.declared.mode.Mode.TheVariants.{Wait}
use Rattle.phase_accum.specs.declared.outcome.Outcome.{Outcome}
use Rattle.phase_history.specs.declared.event.Event.{Event}
use Rattle.phase_history.specs.declared.event.Event.TheVariants.{Registered, RegisteredNow, Signalled, Waited, Dropped}
use Rattle.phase_history.specs.Histories.{done_of}
use Rattle.phase_history.specs.Phases.{received_by}
use Rattle.phase_history.specs.Legal.{IsAccepted}
use Rattle.graph_base.specs.Graphs.{task_at, phaser_at}
use Rattle.graph_base.specs.declared.line.Parent.{Parent}
use Rattle.graph_base.specs.declared.line.Kind.TheVariants.{Source, Peer}
use Rattle.stream_lists.specs.Jobs.{Job, samples_at, index_in}
use Rattle.stream_lists.specs.Spans.{signalled_by}
use Rattle.stream_lists.specs.Lists.{number}
use Rattle.graph_runs.specs.Moments.{one, Moment, limits_at, value_at, input_at, made_now, first_input, HasExchanged, HasEnded, OnLine}
use Rattle.graph_runs.specs.Moves.{further, IsStaying, MayBegin, MayBeginTo, NoneDue, IsBlock}

-- x at place p, and f elsewhere
abbrev pub with_at : {X : Type 0} → ℕ → X → (ℕ → X) → ℕ → X
with_at p x f q = if q == p then x else f q

-- with one more event on phaser p
abbrev pub with_event : ℕ → Event → Moment → Moment
with_event p event m = record m { history = with_at p (event ∷ m.history p) m.history }

-- task t, as number n on phaser p, its output number j, has signalled these values, one a phase,
-- and begun so many steps
abbrev pub after_signals : Job → ℕ → ℕ → ℕ → ℕ → List ℤ → ℕ → Moment → Moment
after_signals job t j p n vs begun m = record m {
  history = with_at p (Signalled n (map one vs) (phaser_at job.graph p).single ∷ m.history p)
      m.history;
  begun = with_at t begun m.begun;
  put = with_at t (with_at j (m.put t j ++ vs) (m.put t)) m.put;
}

-- one value
abbrev pub after_signal : Job → ℕ → ℕ → ℕ → ℕ → ℤ → ℕ → Moment → Moment
after_signal job t j p n v = after_signals job t j p n (v ∷ [])

-- task t, as number n on phaser p, its input number k, has got these outcomes
abbrev pub after_waits : ℕ → ℕ → ℕ → ℕ → List Outcome → ℕ → Moment → Moment
after_waits t k p n outcomes begun m = record m {
  history = with_at p (Waited n (length outcomes) ∷ m.history p) m.history;
  begun = with_at t begun m.begun;
  taken = with_at t (with_at k (m.taken t k ++ map number outcomes) (m.taken t)) m.taken;
}

-- one outcome
abbrev pub after_wait : ℕ → ℕ → ℕ → ℕ → Outcome → ℕ → Moment → Moment
after_wait t k p n outcome = after_waits t k p n (outcome ∷ [])

-- number n has left phaser p
abbrev pub after_leave : ℕ → ℕ → Moment → Moment
after_leave p n m = with_event p (Dropped n) m

-- number n has registered task c as number a on phaser p
abbrev pub after_register : ℕ → ℕ → ℕ → ℕ → Mode → Moment → Moment
after_register p n c a mode m = record m {
  history = with_at p (Registered n a mode ∷ m.history p) m.history;
  number = with_at p (with_at c (Some a) (m.number p)) m.number;
}

-- number n has registered task c now as number a on phaser p: it begins at the first phase that is
-- not complete
abbrev pub after_register_now : ℕ → ℕ → ℕ → ℕ → Moment → Moment
after_register_now p n c a m = record m {
  history = with_at p (RegisteredNow n a ∷ m.history p) m.history;
  number = with_at p (with_at c (Some a) (m.number p)) m.number;
  offset = with_at c (done_of (m.history p)) m.offset;
}

-- the phaser accepts these values from the task
pub record IsAcceptedSignals (job : Job) (m : Moment) (t j p n : ℕ) (vs : List ℤ) : Type 0 where
  pub accepted : IsAccepted (limits_at job p) (m.history p)
      (Signalled n (map one vs) (phaser_at job.graph p).single)
  pub numbered : m.number p t ≡ Some n
  pub place : index_in (signalled_by (task_at job.graph t)) p ≡ Some j
  pub staying : IsStaying m t

-- it accepts one value
abbrev pub IsAcceptedSignal : Job → Moment → ℕ → ℕ → ℕ → ℕ → ℤ → Type 0
IsAcceptedSignal job m t j p n v = IsAcceptedSignals job m t j p n (v ∷ [])

-- v is the next entry of what the task makes on the phaser
pub record IsNextSignal (job : Job) (m : Moment) (t j p n : ℕ) (v : ℤ) : Type 0 where
  pub signal : IsAcceptedSignal job m t j p n v
  pub few : length (m.put t j) < length (made_now job m t j)
  pub entry : get_or (made_now job m t j) (length (m.put t j)) (pos 0) ≡ v
  pub exchanged : HasExchanged (task_at job.graph t).kind j (suc (length (m.put t j)))
      (length (m.taken t 1))

-- v is the next sample
pub record IsNextSample (job : Job) (m : Moment) (t j p n : ℕ) (v : ℤ) : Type 0 where
  pub signal : IsAcceptedSignal job m t j p n v
  pub source : (task_at job.graph t).kind ≡ Source
  pub may_begin : MayBegin job m t
  pub all_put : length (m.put t j) ≡ m.begun t
  pub sample : get_or (samples_at job t) (m.begun t) (pos 0) ≡ v

-- the phaser answers the task's wait with these outcomes
pub record IsAnsweredWaits (job : Job) (m : Moment) (t k p n : ℕ) (outcomes : List Outcome) : Type
    0 where
  pub accepted : IsAccepted (limits_at job p) (m.history p) (Waited n (length outcomes))
  pub numbered : m.number p t ≡ Some n
  pub few : k < length (task_at job.graph t).inputs
  pub place : input_at (task_at job.graph t) k ≡ p
  pub staying : IsStaying m t
  pub answered : received_by (value_at job p) (Waited n (length outcomes) ∷ m.history p) n
      ≡ received_by (value_at job p) (m.history p) n ++ outcomes

-- it answers one outcome
abbrev pub IsAnsweredWait : Job → Moment → ℕ → ℕ → ℕ → ℕ → Outcome → Type 0
IsAnsweredWait job m t k p n outcome = IsAnsweredWaits job m t k p n (outcome ∷ [])

-- the wait is the first of the task's next step
pub record IsFirstWait (job : Job) (m : Moment) (t k p n : ℕ) (outcome : Outcome) : Type 0 where
  pub wait : IsAnsweredWait job m t k p n outcome
  pub first : k ≡ first_input (task_at job.graph t) (m.begun t)
  pub may_begin : MayBegin job m t

-- the wait is a peer's for the value on E
pub record IsExchangeWait (job : Job) (m : Moment) (t p n : ℕ) (outcome : Outcome) : Type 0 where
  pub wait : IsAnsweredWait job m t 1 p n outcome
  pub peer : (task_at job.graph t).kind ≡ Peer
  pub behind : length (m.taken t 1) < m.begun t

-- the phaser lets the task leave at its last boundary, when no child is due there
pub record IsNextLeave (job : Job) (m : Moment) (t p n : ℕ) : Type 0 where
  pub accepted : IsAccepted (limits_at job p) (m.history p) (Dropped n)
  pub numbered : m.number p t ≡ Some n
  pub ended : HasEnded job m t
  pub children : NoneDue job m t p

-- the phaser takes task c, which is a child of task t at this boundary, as number a
pub record IsNextChild (job : Job) (m : Moment) (t p n c a : ℕ) (mode : Mode) (u : Parent)
    : Type 0 where
  pub child : c < length job.graph.tasks
  pub parent : (task_at job.graph c).parent ≡ Some u
  pub by : u.task ≡ t
  pub on_line : OnLine (task_at job.graph c) p
  pub numbered : m.number p t ≡ Some n
  pub absent : m.number p c ≡ None
  pub accepted : IsAccepted (limits_at job p) (m.history p) (Registered n a mode)
  pub signals : (j : ℕ) → index_in (signalled_by (task_at job.graph c)) p ≡ Some j
      → mode_signals mode ≡ true
  pub waits : (k : ℕ) → k < length (task_at job.graph c).inputs
      → input_at (task_at job.graph c) k ≡ p → mode_waits mode ≡ true
  pub boundary : m.begun t ≡ u.at
  pub offset : m.offset c ≡ m.offset t + u.at
  pub nothing_put : (j : ℕ) → index_in (signalled_by (task_at job.graph c)) p ≡ Some j
      → m.put c j ≡ []
  pub nothing_taken : (k : ℕ) → k < length (task_at job.graph c).inputs
      → input_at (task_at job.graph c) k ≡ p → m.taken c k ≡ []
  pub nothing_begun : m.begun c ≡ 0
  pub all_put : (i : ℕ) → index_in (signalled_by (task_at job.graph t)) p ≡ Some i
      → length (m.put t i) ≡ m.begun t
  pub all_taken : (k : ℕ) → k < length (task_at job.graph t).inputs
      → input_at (task_at job.graph t) k ≡ p → length (m.taken t k) ≡ m.begun t

-- the child comes at this boundary as a waiter, and joins now
pub record IsNextChildNow (job : Job) (m : Moment) (t p n c a : ℕ) (u : Parent) : Type 0 where
  pub child : IsNextChild job m t p n c a Wait u
  pub now : (task_at job.graph c).joins_now ≡ true
  pub nothing_taken : (k : ℕ) → m.taken c k ≡ []

-- ---- several phases in one event

-- they are the next entries of what the task makes on the phaser
pub record IsNextSignals (job : Job) (m : Moment) (t j p n : ℕ) (vs : List ℤ) : Type 0 where
  pub signal : IsAcceptedSignals job m t j p n vs
  pub entries : IsPrefix (m.put t j ++ vs) (made_now job m t j)
  pub exchanged : HasExchanged (task_at job.graph t).kind j (length (m.put t j) + length vs)
      (length (m.taken t 1))

-- they are the next samples
pub record IsNextSamples (job : Job) (m : Moment) (t j p n : ℕ) (vs : List ℤ) : Type 0 where
  pub signal : IsAcceptedSignals job m t j p n vs
  pub source : (task_at job.graph t).kind ≡ Source
  pub may_begin : MayBeginTo job m t (further (m.begun t) vs)
  pub all_put : length (m.put t j) ≡ m.begun t
  pub samples : vs ≡ take (length vs) (drop (m.begun t) (samples_at job t))

-- the wait is the first of the task's next steps
pub record IsFirstWaits (job : Job) (m : Moment) (t k p n : ℕ) (outcomes : List Outcome) : Type
    0 where
  pub wait : IsAnsweredWaits job m t k p n outcomes
  pub first : k ≡ first_input (task_at job.graph t) (m.begun t)
  pub block : IsBlock (task_at job.graph t).kind (length outcomes)
  pub may_begin : MayBeginTo job m t (further (m.begun t) outcomes)

-- What is known of a run by who moves one task alone, and what the calls of its registrations
-- leave.
use Rattle.std.specs.Prelude.{◌≡◌, ◌≢◌, ℕ, ◌+◌, ◌<◌, ℤ, List, [], ◌∷◌, ◌++◌, length, map, take, drop, Some, Ok}
use mathlib.Core.List.{IsPrefix}
use Rattle.phase_accum.specs.declared.outcome.Outcome.{Outcome}
use Rattle.phase_history.specs.declared.event.Event.{Event}
use Rattle.phase_history.specs.declared.event.Event.TheVariants.{Signalled, Waited}
use Rattle.phase_history.specs.Histories.{History, has_dropped}
use Rattle.phase_history.specs.Phases.{received_by}
use Rattle.phase_history.specs.Legal.{IsLegal}
use Rattle.phase_history.specs.Others.{OthersCame}
use Rattle.phase_history.specs.declared.got.Got.TheVariants.{Ended}
use Rattle.phase_history.specs.Replies.{wait_reply}
use Rattle.graph_base.specs.Graphs.{task_at, phaser_at}
use Rattle.graph_base.specs.declared.line.Kind.TheVariants.{Source, Peer}
use Rattle.stream_lists.specs.Jobs.{Job, samples_at, index_in}
use Rattle.stream_lists.specs.Spans.{signalled_by}
use Rattle.stream_lists.specs.Lists.{number}
use Rattle.graph_runs.specs.Moments.{one, Moment, TaskRan, OnLine, HasEnded, HasExchanged, limits_at, value_at, made_now, input_at, first_input}
use Rattle.graph_runs.specs.Moves.{SameTask, IsBlock, IsStaying, MayBeginTo}

-- a moment of task t's own: the task has done what it has by then, and each phaser on its line has
-- a legal history. Of other tasks and phasers it says nothing
pub record HasPart (job : Job) (m : Moment) (t : ℕ) : Type 0 where
  pub ran : TaskRan job m t
  pub legal : (p : ℕ) → OnLine (task_at job.graph t) p → IsLegal (limits_at job p) (m.history p)

-- task t, as number n on phaser p, has seen the phaser's history come to this by others' events
pub record SeesOthers (job : Job) (m : Moment) (t p n : ℕ) (now : History) : Type 0 where
  pub numbered : m.number p t ≡ Some n
  pub others : OthersCame (n ∷ []) (m.history p) now
  pub legal : IsLegal (limits_at job p) now

-- it has seen others' events, and then its own event
pub record SeesOwn (job : Job) (m : Moment) (t p n : ℕ) (event : Event) (before : History)
    : Type 0 where
  pub numbered : m.number p t ≡ Some n
  pub others : OthersCame (n ∷ []) (m.history p) before
  pub legal : IsLegal (limits_at job p) (event ∷ before)

-- the event of number n on phaser p that puts these values, one a phase
abbrev pub put_event : Job → ℕ → ℕ → List ℤ → Event
put_event job p n vs = Signalled n (map one vs) (phaser_at job.graph p).single

-- a wait of number n on phaser p is answered with these outcomes
abbrev pub IsAnsweredBy : Job → ℕ → ℕ → List Outcome → History → Type 0
IsAnsweredBy job p n outcomes before =
    received_by (value_at job p) (Waited n (length outcomes) ∷ before) n
    ≡ received_by (value_at job p) before n ++ outcomes

-- it is answered that the stream has ended
abbrev pub IsAnsweredEnd : Job → ℕ → ℕ → History → Type 0
IsAnsweredEnd job p n now = wait_reply (value_at job p) (limits_at job p) now n ≡ Ok Ended

-- ---- what is next

-- vs are the next entries of what the begun steps of task t make on its output j, phaser p
pub record AreNextValues (job : Job) (m : Moment) (t j p : ℕ) (vs : List ℤ) : Type 0 where
  pub place : index_in (signalled_by (task_at job.graph t)) p ≡ Some j
  pub staying : IsStaying m t
  pub entries : IsPrefix (m.put t j ++ vs) (made_now job m t j)
  pub exchanged : HasExchanged (task_at job.graph t).kind j (length (m.put t j) + length vs)
      (length (m.taken t 1))

-- vs are the next samples of task t, a source, on phaser p
pub record AreNextSamples (job : Job) (m : Moment) (t j p : ℕ) (vs : List ℤ) : Type 0 where
  pub place : index_in (signalled_by (task_at job.graph t)) p ≡ Some j
  pub staying : IsStaying m t
  pub source : (task_at job.graph t).kind ≡ Source
  pub may_begin : MayBeginTo job m t (m.begun t + length vs)
  pub all_put : length (m.put t j) ≡ m.begun t
  pub samples : vs ≡ take (length vs) (drop (m.begun t) (samples_at job t))

-- a wait on input k, phaser p, that is answered so many outcomes begins as many steps of task t
pub record BeginsSteps (job : Job) (m : Moment) (t k p steps : ℕ) : Type 0 where
  pub few : k < length (task_at job.graph t).inputs
  pub place : input_at (task_at job.graph t) k ≡ p
  pub staying : IsStaying m t
  pub first : k ≡ first_input (task_at job.graph t) (m.begun t)
  pub block : IsBlock (task_at job.graph t).kind steps
  pub may_begin : MayBeginTo job m t (m.begun t + steps)

-- a wait on phaser p is that of task t, a peer, for the value on E
pub record IsExchange (job : Job) (m : Moment) (t p : ℕ) : Type 0 where
  pub few : 1 < length (task_at job.graph t).inputs
  pub place : input_at (task_at job.graph t) 1 ≡ p
  pub staying : IsStaying m t
  pub peer : (task_at job.graph t).kind ≡ Peer
  pub behind : length (m.taken t 1) < m.begun t

-- ---- what a call leaves

-- a part later: phaser p has this history, and the others are as they were
pub record HasMovedOn (job : Job) (before after : Moment) (t p : ℕ) (now : History) : Type 0 where
  pub part : HasPart job after t
  pub here : after.history p ≡ now
  pub elsewhere : (q : ℕ) → q ≢ p → after.history q ≡ before.history q
  pub numbers : (q u : ℕ) → after.number q u ≡ before.number q u
  pub offset : (u : ℕ) → after.offset u ≡ before.offset u
  pub others_begun : (u : ℕ) → u ≢ t → after.begun u ≡ before.begun u

-- with no event of the task
pub record HasSeen (job : Job) (before after : Moment) (t p : ℕ) (now : History) : Type 0 where
  pub moved : HasMovedOn job before after t p now
  pub same : SameTask before after t
  pub left : (q u : ℕ) → before.number q t ≡ Some u
      → has_dropped (after.history q) u ≡ has_dropped (before.history q) u
  pub staying : IsStaying before t → IsStaying after t
  pub ended : HasEnded job before t → HasEnded job after t

-- task t has put these values on its output j, and begun so many steps
pub record HasPut (job : Job) (before after : Moment) (t j p : ℕ) (vs : List ℤ) (begun : ℕ)
    (now : History) : Type 0 where
  pub moved : HasMovedOn job before after t p now
  pub begun_is : after.begun t ≡ begun
  pub taken : (k : ℕ) → after.taken t k ≡ before.taken t k
  pub put : after.put t j ≡ before.put t j ++ vs
  pub other_puts : (i : ℕ) → i ≢ j → after.put t i ≡ before.put t i
  pub staying : IsStaying after t

-- task t has taken the numbers of these outcomes from its input k, and begun so many steps
pub record HasGot (job : Job) (before after : Moment) (t k p : ℕ) (outcomes : List Outcome)
    (begun : ℕ) (now : History) : Type 0 where
  pub moved : HasMovedOn job before after t p now
  pub begun_is : after.begun t ≡ begun
  pub taken : after.taken t k ≡ before.taken t k ++ map number outcomes
  pub other_takes : (i : ℕ) → i ≢ k → after.taken t i ≡ before.taken t i
  pub put : (j : ℕ) → after.put t j ≡ before.put t j
  pub staying : IsStaying after t

-- task t has left phaser p, and has ended still
pub record LeavesPart (job : Job) (before after : Moment) (t p : ℕ) (now : History) : Type 0 where
  pub moved : HasMovedOn job before after t p now
  pub same : SameTask before after t
  pub ended : HasEnded job after t

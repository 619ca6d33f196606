-- How a run begins: each phaser's founder has registered the tasks without a parent, and has left.
use Rattle.std.specs.Prelude.{◌≡◌, ◌≢◌, ℕ, ◌<◌, [], ◌∷◌, length, Some, None, IsSome, true}
use Rattle.phase_base.specs.Modes.{mode_signals, mode_waits}
use Rattle.phase_base.specs.declared.entry.Entry.{Entry}
use Rattle.phase_history.specs.declared.event.Event.TheVariants.{Made, Registered, RegisteredNow, Signalled, Waited, Dropped}
use Rattle.phase_history.specs.Histories.{History, start_of}
use Rattle.phase_history.specs.Legal.{IsLegal}
use Rattle.phase_history.specs.Others.{IsUsed}
use Rattle.graph_base.specs.Graphs.{task_at}
use Rattle.stream_lists.specs.Jobs.{Job, index_in}
use Rattle.stream_lists.specs.Spans.{signalled_by}
use Rattle.graph_runs.specs.Moments.{Moment, limits_at, input_at, OnLine}

-- the founder made the phaser, registered tasks and left, and nothing else happened
abbrev pub IsOpening : ℕ → History → Type 0
IsOpening founder [] = ⊥
IsOpening founder (Made task ∷ before) = (task ≡ founder) × (before ≡ [])
IsOpening founder (Registered parent child mode ∷ before) =
    (parent ≡ founder) × IsOpening founder before
IsOpening founder (RegisteredNow parent child ∷ before) = ⊥
IsOpening founder (Signalled task lists single ∷ before) = ⊥
IsOpening founder (Waited task phases ∷ before) = ⊥
IsOpening founder (Dropped task ∷ before) = (task ≡ founder) × IsOpening founder before

-- phaser p at the opening: its tasks have numbers of their own, which are not the founder's
pub record PhaserOpened (job : Job) (m : Moment) (p : ℕ) : Type 0 where
  pub legal : IsLegal (limits_at job p) (m.history p)
  pub founder : ℕ
  pub opening : IsOpening founder (m.history p)
  pub distinct : (t u n : ℕ) → t < length job.graph.tasks → u < length job.graph.tasks
      → m.number p t ≡ Some n → m.number p u ≡ Some n → t ≡ u
  pub used : (t n : ℕ) → m.number p t ≡ Some n → IsUsed (m.history p) n
  pub apart : (t n : ℕ) → m.number p t ≡ Some n → n ≢ founder

-- task t at the opening: it is registered on the phasers of its line where it has no parent, in a
-- mode that may signal its outputs and wait for its inputs, and on none where it has one
pub record TaskOpened (job : Job) (m : Moment) (t : ℕ) : Type 0 where
  pub rooted : (p n : ℕ) → m.number p t ≡ Some n → (task_at job.graph t).parent ≡ None
  pub lines : (p n : ℕ) → m.number p t ≡ Some n → OnLine (task_at job.graph t) p
  pub present : (p : ℕ) → (task_at job.graph t).parent ≡ None → OnLine (task_at job.graph t) p
      → IsSome (m.number p t)
  pub signals : (p n j : ℕ) (start : Entry) → m.number p t ≡ Some n
      → index_in (signalled_by (task_at job.graph t)) p ≡ Some j
      → start_of (m.history p) n ≡ Some start → mode_signals start.mode ≡ true
  pub waits : (k n : ℕ) (start : Entry) → k < length (task_at job.graph t).inputs
      → m.number (input_at (task_at job.graph t) k) t ≡ Some n
      → start_of (m.history (input_at (task_at job.graph t) k)) n ≡ Some start
      → mode_waits start.mode ≡ true
  pub offset : (task_at job.graph t).parent ≡ None → m.offset t ≡ 0
  pub nothing_begun : m.begun t ≡ 0
  pub nothing_put : (j : ℕ) → m.put t j ≡ []
  pub nothing_taken : (k : ℕ) → m.taken t k ≡ []

-- a run at its opening
pub record HasOpened (job : Job) (m : Moment) : Type 0 where
  pub phasers : (p : ℕ) → p < length job.graph.phasers → PhaserOpened job m p
  pub tasks : (t : ℕ) → t < length job.graph.tasks → TaskOpened job m t

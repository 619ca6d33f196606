-- One event of one task, the moment after it, and when it is the task's next one.
use Rattle.std.specs.Prelude.{ℕ, ◌<◌, ℤ, List, length}
use Rattle.phase_base.specs.declared.mode.Mode.{Mode}
use Rattle.phase_accum.specs.declared.outcome.Outcome.{Outcome}
use Rattle.graph_base.specs.declared.line.Parent.{Parent}
use Rattle.stream_lists.specs.Jobs.{Job}
use Rattle.graph_runs.specs.Moments.{Moment}
use Rattle.graph_runs.specs.Moves.{further}
use Rattle.graph_runs.specs.Turned.{after_signals, after_waits, after_wait, after_leave, after_register, after_register_now, IsNextSamples, IsNextSignals, IsFirstWaits, IsExchangeWait, IsNextLeave, IsNextChild, IsNextChildNow}

-- an event of task t on phaser p, where its number is n: these samples, or values of output j, one
-- a phase; these outcomes from input k, by which steps begin; a peer's outcome from E; that it
-- leaves; that it registers task c as number a, or as a sink that joins now
pub data TaskEvent : Type 0 where
  sample : (t j p n : ℕ) (vs : List ℤ) → TaskEvent
  signal : (t j p n : ℕ) (vs : List ℤ) → TaskEvent
  first_wait : (t k p n : ℕ) (outcomes : List Outcome) → TaskEvent
  exchange_wait : (t p n : ℕ) (outcome : Outcome) → TaskEvent
  leave : (t p n : ℕ) → TaskEvent
  child : (t p n c a : ℕ) (mode : Mode) → TaskEvent
  child_now : (t p n c a : ℕ) → TaskEvent

-- the graph has the task and the phaser
pub record IsThere (job : Job) (t p : ℕ) : Type 0 where
  pub task : t < length job.graph.tasks
  pub phaser : p < length job.graph.phasers

-- the moment after it
abbrev pub after_turn : Job → TaskEvent → Moment → Moment
after_turn job (sample t j p n vs) m = after_signals job t j p n vs (further (m.begun t) vs) m
after_turn job (signal t j p n vs) m = after_signals job t j p n vs (m.begun t) m
after_turn job (first_wait t k p n outcomes) m =
    after_waits t k p n outcomes (further (m.begun t) outcomes) m
after_turn job (exchange_wait t p n outcome) m = after_wait t 1 p n outcome (m.begun t) m
after_turn job (leave t p n) m = after_leave p n m
after_turn job (child t p n c a mode) m = after_register p n c a mode m
after_turn job (child_now t p n c a) m = after_register_now p n c a m

-- the event is the next one of its task, on a phaser that accepts it
abbrev pub IsNext : Job → Moment → TaskEvent → Type 0
IsNext job m (sample t j p n vs) = IsThere job t p × IsNextSamples job m t j p n vs
IsNext job m (signal t j p n vs) = IsThere job t p × IsNextSignals job m t j p n vs
IsNext job m (first_wait t k p n outcomes) = IsThere job t p × IsFirstWaits job m t k p n outcomes
IsNext job m (exchange_wait t p n outcome) = IsThere job t p × IsExchangeWait job m t p n outcome
IsNext job m (leave t p n) = IsThere job t p × IsNextLeave job m t p n
IsNext job m (child t p n c a mode) =
    IsThere job t p × ((u : Parent) × IsNextChild job m t p n c a mode u)
IsNext job m (child_now t p n c a) =
    IsThere job t p × ((u : Parent) × IsNextChildNow job m t p n c a u)

-- The end of a stream, and who has received all of it.
use Rattle.std.specs.Prelude.{◌≡◌, ℕ, ◌≤◌, ℤ, List, Some, drop}
use Rattle.phase_base.specs.declared.entry.Entry.{Entry}
use Rattle.phase_accum.specs.declared.outcome.Outcome.{Outcome}
use Rattle.phase_history.specs.Histories.{History, HasNoSignaller, start_of, done_of, wait_phase}
use Rattle.phase_history.specs.Phases.{received_by, stream_of}

-- the task has seen that no more will come: no registered task signals, and it has waited for each
-- complete phase
pub record HasSeenEnd (h : History) (task : ℕ) : Type 0 where
  pub no_signaller : HasNoSignaller h
  pub got_all : done_of h ≤ wait_phase h task

-- the stream has ended, and the task has received exactly the stream from its start on
pub record HasWhole (value : List ℤ → Outcome) (h : History) (task : ℕ) : Type 0 where
  pub no_signaller : HasNoSignaller h
  pub start : Entry
  pub start_is : start_of h task ≡ Some start
  pub whole : received_by value h task ≡ drop start.wait_phase (stream_of value h)

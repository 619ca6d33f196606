-- What a history has of the members of a phaser's list, and what a moment has of the lists that the
-- definitions compose.
use Rattle.std.specs.Prelude.{◌≡◌, ℕ, ◌-◌, ◌<◌, ◌≤◌, ℤ, List, [], ◌++◌, Option, Some, None, true, map, length, get_or, take, drop}
use Rattle.phase_base.specs.Modes.{mode_signals}
use Rattle.phase_base.specs.declared.entry.Entry.{Entry}
use Rattle.phase_history.specs.Histories.{History, done_of, start_of, has_dropped, HasNoSignaller}
use Rattle.phase_history.specs.Phases.{value_of_phase}
use Rattle.phase_history.specs.Sent.{sent_by, IsSilent}
use Rattle.graph_base.specs.Graphs.{task_at}
use Rattle.stream_lists.specs.Jobs.{Job}
use Rattle.stream_lists.specs.Spans.{lengths_of, schedule_of}
use Rattle.stream_lists.specs.Lists.{Contribution, contributions_on, phase_in, numbers_of}
use Rattle.graph_runs.specs.Moments.{one, Moment, input_at, value_at}

-- the task has put the first of the member's values, one a phase, from the member's offset on, and
-- all of them where it has left
pub record HasPut (h : History) (task : ℕ) (member : Contribution) : Type 0 where
  pub start : Entry
  pub start_is : start_of h task ≡ Some start
  pub signals : mode_signals start.mode ≡ true
  pub at : start.signal_phase ≡ member.0
  pub put : List ℤ
  pub sent : sent_by h task ≡ map one put
  pub rest : List ℤ
  pub first : put ++ rest ≡ member.1
  pub whole : has_dropped h task ≡ true → rest ≡ []

-- the phaser waits for a member that is not registered yet: some other holds its first phase open
pub record IsAwaited (h : History) (member : Contribution) : Type 0 where
  pub later : done_of h ≤ member.0
  pub held : HasNoSignaller h → ⊥

-- a task's number on the phaser, where it is registered there, and the member that the definitions
-- have of it
abbrev pub Agrees : History → Option ℕ → Option Contribution → Type 0
Agrees h None None = Unit {0}
Agrees h None (Some member) = IsAwaited h member
Agrees h (Some task) None = IsSilent h task
Agrees h (Some task) (Some member) = HasPut h task member

-- the phases of phaser p that are complete have the values of the phaser's list, and where no task
-- signals any more they are all of it
pub record Composes (job : Job) (m : Moment) (p : ℕ) : Type 0 where
  pub values : (n : ℕ) → n < done_of (m.history p)
      → value_of_phase (value_at job p) (m.history p) n
      ≡ phase_in (value_at job p) job p (contributions_on job (schedule_of job) (numbers_of job) p) n
  pub within : done_of (m.history p) ≤ get_or (lengths_of job) p 0
  pub whole : HasNoSignaller (m.history p) → get_or (lengths_of job) p 0 ≤ done_of (m.history p)

-- what a task has taken from its input number k begins what the phaser's list has from the task's
-- offset on
pub record HasRead (job : Job) (m : Moment) (t k : ℕ) : Type 0 where
  pub room : length (m.taken t k)
      ≤ get_or (lengths_of job) (input_at (task_at job.graph t) k) 0 - m.offset t
  pub is : m.taken t k
      ≡ take (length (m.taken t k))
      (drop (m.offset t) (get_or (numbers_of job) (input_at (task_at job.graph t) k) []))

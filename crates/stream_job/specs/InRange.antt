-- Turns that take no value out of range, and where a task stands before one.
use Rattle.std.specs.Prelude.{◌≡◌, ◌≢◌, ◌≤◌, ℕ, suc, ℤ, List, Option, Some, None, Bool, true, false, ◌||◌, length, drop}
use Rattle.std.specs.List.{All, position_from}
use Rattle.graph_base.specs.Graphs.{task_at}
use Rattle.stream_lists.specs.Jobs.{Job}
use Rattle.stream_lists.specs.Ranges.{Where, is_out_of_range}
use Rattle.graph_runs.specs.Answers.{Answer, Gone, Told, TooBig, after_answer, answer_up_to, makes, tells_up_to, turn_up_to, was_blocked, word_of_answer}
use Rattle.graph_runs.specs.Moments.{Moment, HasAnsweredNone, made_now}
use Rattle.graph_runs.specs.NextBlocks.{MaySize}
use Rattle.graph_runs.specs.Nexts.{Next, next_of, signals}
use Rattle.graph_runs.specs.TaskEvents.{TaskEvent}
use Rattle.stream_job.specs.Machines.{HasRoom, IsMachineAt, KeepsLines, most_in}
use Rattle.stream_job.specs.Stepping.{HasRoomAt, OwesMade, is_at_rest}
use Rattle.stream_job.specs.Turning.{turn_in}
use Rattle.stream_job.specs.declared.ahead.Ahead.{Ahead}
use Rattle.stream_job.specs.declared.ahead.Ahead.TheVariants as ahead
use Rattle.stream_job.specs.declared.machine.Machine.{Machine}
use Rattle.stream_job.specs.declared.made.Made.{Made}
use Rattle.stream_job.specs.declared.made.Made.TheVariants as made
use Rattle.stream_job.specs.declared.went.Went.{Went}
use Rattle.stream_job.specs.declared.went.Went.TheVariants as went

-- ---- where a task stands

-- where a value is out of range, by what a turn tells
abbrev pub told_too_big : Option Told → Option Where
told_too_big (Some (TooBig at)) = Some at
told_too_big told = None

-- where task t stands before a value out of range: one that a step of it would take, or the next
-- one that it owes
abbrev pub stands_before : Job → Moment → ℕ → Option Where
stands_before job m t = told_too_big (tells_up_to 1 1 job m t)

-- how many values task t owes on output j before the first that is out of range, where one is
abbrev pub good_many : Job → Moment → ℕ → ℕ → Option ℕ
good_many job m t j =
    position_from is_out_of_range 0 (drop (length (m.put t j)) (made_now job m t j))

-- whether the signal of so many of them would be blocked, where there are some
abbrev pub are_blocked : Job → Moment → ℕ → ℕ → Option ℕ → Bool
are_blocked job m t j (Some (suc n)) =
    was_blocked (answer_up_to 1 (suc n) job m t (signals j))
are_blocked job m t j many = false

-- whether a task that makes this call next owes values before one that is out of range, and the
-- signal of these would be blocked
abbrev pub blocks_before : Job → Moment → ℕ → Next → Bool
blocks_before job m t (signals j) = are_blocked job m t j (good_many job m t j)
blocks_before job m t next = false

-- whether task t does
abbrev pub is_blocked_before : Job → Moment → ℕ → Bool
is_blocked_before job m t = blocks_before job m t (next_of job m t)

-- whether task t is held up: it is not live, or its turn would be blocked, which signals all
-- that it owes, or all that it owes before a value out of range
abbrev pub is_held_up : Job → Moment → ℕ → Bool
is_held_up job m t = is_at_rest job m t || is_blocked_before job m t

-- ---- turns

-- what a turn did that met no value out of range
abbrev pub went_by : Made → Went
went_by (made.Event p told) = went.On
went_by it = went.Stays

-- the machine had a turn of task t that made an event, and took no value out of range: the lines
-- have kept what the sinks received, and have the room that they had
pub record HasMoved (job : Job) (old new : Machine) (t : ℕ) : Type 0 where
  pub steps : ℕ
  pub most : ℕ
  pub sized : MaySize job.graph t steps most
  pub moves : (m : Moment) → IsMachineAt job m old
      → (event : TaskEvent) × (turn_up_to steps most job m t ≡ makes event)
  pub good : (m : Moment) (at : Where) → IsMachineAt job m old
      → tells_up_to steps most job m t ≢ Some (TooBig at)
  pub after : (m : Moment) → IsMachineAt job m old → HasAnsweredNone job m
      → IsMachineAt job (after_answer job (turn_up_to steps most job m t) m) new
  pub lines : (given : ℕ → List ℤ) (m : Moment) → IsMachineAt job m old → HasAnsweredNone job m
      → KeepsLines job given m old.lines.items
      → KeepsLines job given (after_answer job (turn_up_to steps most job m t) m) new.lines.items
  pub own : (room : ℕ → ℕ) → All (HasRoom room) old.lines.items
      → All (HasRoom room) new.lines.items

-- it made none by a turn of at most so many steps: by one of a block of its line the task is held
-- up
pub record HasStayed (steps : ℕ) (job : Job) (old new : Machine) (t : ℕ) : Type 0 where
  pub held : steps ≡ (task_at job.graph t).block → (m : Moment) → IsMachineAt job m old
      → is_held_up job m t ≡ true
  pub stands : (m : Moment) → IsMachineAt job m old → HasAnsweredNone job m
      → IsMachineAt job m new
  pub lines : (given : ℕ → List ℤ) (m : Moment) → IsMachineAt job m old → HasAnsweredNone job m
      → KeepsLines job given m old.lines.items → KeepsLines job given m new.lines.items
  pub own : (room : ℕ → ℕ) → All (HasRoom room) old.lines.items
      → All (HasRoom room) new.lines.items

-- nothing changed, and task t stands before a value out of range
pub record HasHalted (job : Job) (old new : Machine) (t : ℕ) (at : Where) : Type 0 where
  pub same : new ≡ old
  pub before : (m : Moment) → IsMachineAt job m old → stands_before job m t ≡ Some at

-- what a turn of at most so many steps did
abbrev pub HasGone : ℕ → Job → Machine → Machine → ℕ → Went → Type 0
HasGone steps job old new t went.On = HasMoved job old new t
HasGone steps job old new t went.Stays = HasStayed steps job old new t
HasGone steps job old new t (went.Before place phase) = HasHalted job old new t (place, phase)

-- ---- what is ahead

-- whether it is told that the task moved or was blocked, or nothing
abbrev pub is_no_fault : Option Told → Bool
is_no_fault (Some (TooBig at)) = false
is_no_fault (Some Gone) = false
is_no_fault told = true

-- of this answer it is
abbrev pub TellsNoFault : Job → Moment → Answer → Type 0
TellsNoFault job m answer = is_no_fault (word_of_answer job m answer) ≡ true

-- a turn of so many steps, of those that task t may make, tells no value out of range; where it has
-- fewer, it makes an event, and where the line of a sink has room for all, it has room for these
pub record IsGoodSize (steps n : ℕ) (job : Job) (machine : Machine) (t : ℕ) : Type 0 where
  pub some : 1 ≤ n
  pub few : n ≤ steps
  pub good : (m : Moment) → IsMachineAt job m machine
      → TellsNoFault job m (turn_in n job machine m t)
  pub makes : n ≢ steps → (m : Moment) → IsMachineAt job m machine
      → (event : TaskEvent) × (turn_in n job machine m t ≡ makes event)
  pub room : (m : Moment) → IsMachineAt job m machine → HasRoomAt steps job machine t m
      → HasRoomAt n job machine t m

-- task t, a filter, has made so many values before one that is out of range, and signals next
pub record IsGoodPart (many : ℕ) (job : Job) (machine : Machine) (t : ℕ) : Type 0 where
  pub some : 1 ≤ many
  pub few : many ≤ most_in machine t
  pub owes : OwesMade machine t
  pub next : (m : Moment) → IsMachineAt job m machine → next_of job m t ≡ signals 0
  pub good : (m : Moment) → IsMachineAt job m machine → good_many job m t 0 ≡ Some many

-- what task t may do, of at most so many steps, that takes no value out of range
abbrev pub IsAhead : ℕ → Job → Machine → ℕ → Ahead → Type 0
IsAhead steps job machine t (ahead.Steps n) = IsGoodSize steps n job machine t
IsAhead steps job machine t (ahead.Values many) = IsGoodPart many job machine t
IsAhead steps job machine t (ahead.Before place phase) =
    (m : Moment) → IsMachineAt job m machine → stands_before job m t ≡ Some (place, phase)
